use Rattle.commonware_vec.proofs.Drawn.{memory_for_drawn}
use Rattle.commonware_vec.proofs.non_empty.builders.NonEmptyVecTryFromIterator.try_from_iter.Goals as goal

pub returns-in_err-push-clause-err : goal.returns-in_err-push-clause-err
returns-in_err-push-clause-err g c =
    memory_for_drawn g.I.IntoIterator.into_iter_gives g.I.IntoIter.Iterator.next_gives c.args.iter _ _ _ c.loop-item.yielded c.in-Some.item c.from_residual.result
    c.into_iter-item-iterator.ensures.into_iter_gives c.loop-item.yielded_by c.in-Some.ensures.steps c.from_residual.ensures.1
