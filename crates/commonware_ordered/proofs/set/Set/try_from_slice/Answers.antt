use Rattle.commonware_ordered.proofs.Cloned.{whole_set_of_clones}
use Rattle.commonware_ordered.proofs.set.Set.try_from_slice.Goals as goal

pub returns : goal.returns
returns g c =
    whole_set_of_clones g.met.T.Eq.laws g.T.Clone.is_clone g.met.T.EqClone.clones_are_equal g.T.Ord.cmp _ _ c.in_ok-clones_of.ensures.clones c.try_from_vec.result c.try_from_vec.ensures.whole
