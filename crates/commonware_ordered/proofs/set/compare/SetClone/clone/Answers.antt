use Rattle.commonware_base.specs.laws.CloneLaws.{equal_from_all_zip}
use Rattle.commonware_ordered.specs.laws.StrictLaws.{strict_same}
use Rattle.commonware_ordered.proofs.set.compare.SetClone.clone.Goals as goal

pub invariant_of-result : goal.invariant_of-result
invariant_of-result g c =
    let equal = equal_from_all_zip g.T.Clone.is_clone g.met.T.EqClone.clones_are_equal _ _ c.in_ok-items.ensures.cases.0 in
    strict_same g.T.Ord.cmp g.T.PartialEq.eq g.met.T.Ord.total g.met.T.Ord.matches_eq _ _ equal c.self.invariant
