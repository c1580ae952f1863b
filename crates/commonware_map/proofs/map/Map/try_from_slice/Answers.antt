use Rattle.std.specs.Cmp.{on_equiv}
use Rattle.commonware_ordered.proofs.Cloned.{whole_set_of_clones}
use Rattle.commonware_map.proofs.map.Map.try_from_slice.Goals as goal

pub returns : goal.returns
returns g c =
    whole_set_of_clones (on_equiv (λ p. p.0) g.met.K.Eq.laws) (λ p q. g.K.Clone.is_clone p.0 q.0 × g.V.Clone.is_clone p.1 q.1) (λ p q h. g.met.K.EqClone.clones_are_equal p.0 q.0 h.0)
    (λ p q. g.K.Ord.cmp p.0 q.0) _ _ c.in_ok-clones_of.ensures.clones c.try_from_vec.result c.try_from_vec.ensures
