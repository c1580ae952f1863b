use Rattle.commonware_bimap.proofs.Refused.{whole_bimap}
use Rattle.commonware_bimap.proofs.bimap.BiMap.try_from_vec.Goals as goal

pub returns : goal.returns
returns g c =
    whole_bimap g.K.PartialEq.eq g.K.Ord.cmp g.V.PartialEq.eq g.met.V.Eq.laws (Unit {0}) tt c.args.vec.items _ c.in_ok-try_from_vec.ensures c.try_from_map.result c.try_from_map.ensures.whole
