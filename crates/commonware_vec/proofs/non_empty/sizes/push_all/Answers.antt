use Rattle.std.proofs.Common.{◌∙◌, subst, sym}
use Rattle.commonware_vec.proofs.Drawn.{drawn_one}
use Rattle.commonware_vec.proofs.non_empty.sizes.push_all.Goals as goal

pub returns-in_err-push_among-clause-nothing : goal.returns-in_err-push_among-clause-nothing
returns-in_err-push_among-clause-nothing g c =
    drawn_one g.I.IntoIterator.into_iter_gives g.I.IntoIter.Iterator.next_gives c.args.iter _ _ _ c.loop-item.yielded c.in-Some.item c.from_residual.result
    (subst (g.I.IntoIterator.into_iter_gives c.args.iter) (sym c.into_iter-item-iterator.ensures.into_iter_gives) c.into_iter-rest.ensures.into_iter_gives) c.loop-item.yielded_by c.in-Some.ensures.steps

pub returns-in_err-push_among-clause-err : goal.returns-in_err-push_among-clause-err
returns-in_err-push_among-clause-err g c = (c.loop-item.yielded, c.in_err-push_among.ensures.err ∙ c.loop-item.invariant)

pub returns-clause-err : goal.returns-clause-err
returns-clause-err g c = (c.loop-item.yielded, c.loop-item.invariant)
