use Rattle.commonware_map.specs.laws.PairLaws.{both_equal}
use Rattle.commonware_bimap.proofs.Refused.{whole_bimap_of_clones}
use Rattle.commonware_bimap.proofs.bimap.BiMap.try_from_slice.Goals as goal

pub returns : goal.returns
returns g c =
    let C = g.K.Clone.is_clone in
    let D = g.V.Clone.is_clone in
    let each = both_equal g.K.PartialEq.eq g.V.PartialEq.eq C D g.met.K.EqClone.clones_are_equal g.met.V.EqClone.clones_are_equal in
    whole_bimap_of_clones g.K.PartialEq.eq g.K.Ord.cmp g.V.PartialEq.eq g.met.V.Eq.laws (λ p q. C p.0 q.0 × D p.1 q.1) each c.args.pairs.now _ c.in_ok-try_from_slice.ensures c.try_from_map.result c.try_from_map.ensures.whole
