use Rattle.commonware_base.specs.laws.CloneLaws.{equal_from_all_zip}
use Rattle.commonware_map.specs.laws.PairLaws.{both_equal}
use Rattle.commonware_bimap.specs.laws.BiMapLaws.{repeated_back}
use Rattle.commonware_bimap.proofs.bimap.compare.BiMapClone.clone.Goals as goal

pub invariant_of-result : goal.invariant_of-result
invariant_of-result g c = λ twice.
    let C = g.K.Clone.is_clone in
    let D = g.V.Clone.is_clone in
    let each = both_equal g.K.PartialEq.eq g.V.PartialEq.eq C D g.met.K.EqClone.clones_are_equal g.met.V.EqClone.clones_are_equal in
    c.self.invariant
    (repeated_back g.K.PartialEq.eq g.V.PartialEq.eq g.met.V.Eq.laws c.self.inside.map c.in_ok-map.map (equal_from_all_zip (λ p q. C p.0 q.0 × D p.1 q.1) each c.self.inside.map c.in_ok-map.map c.in_ok-map.ensures.cases) twice)
