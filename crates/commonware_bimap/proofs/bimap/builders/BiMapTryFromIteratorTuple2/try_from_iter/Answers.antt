use Rattle.commonware_bimap.proofs.Refused.{whole_from_iter}
use Rattle.commonware_bimap.proofs.bimap.builders.BiMapTryFromIteratorTuple2.try_from_iter.Goals as goal

pub returns-clause-ok : goal.returns-clause-ok
returns-clause-ok g c =
    (whole_from_iter g.K.PartialEq.eq g.K.Ord.cmp g.V.PartialEq.eq g.met.V.Eq.laws g.I.IntoIterator.into_iter_gives g.I.IntoIter.Iterator.next_gives c.args.iter _ c.in_ok-try_from_iter.ensures.ok c.try_from_map.result c.try_from_map.ensures.whole).0

pub returns-clause-err : goal.returns-clause-err
returns-clause-err g c =
    (whole_from_iter g.K.PartialEq.eq g.K.Ord.cmp g.V.PartialEq.eq g.met.V.Eq.laws g.I.IntoIterator.into_iter_gives g.I.IntoIter.Iterator.next_gives c.args.iter _ c.in_ok-try_from_iter.ensures.ok c.try_from_map.result c.try_from_map.ensures.whole).1
