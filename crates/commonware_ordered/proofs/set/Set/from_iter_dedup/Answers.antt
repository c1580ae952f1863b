use Rattle.std.proofs.Common.{◌≤◌, ◌++◌, arith, false, length, length-append, rules, subst, sym}
use mathlib.Core.Bool.{true≢false}
use Rattle.commonware_ordered.proofs.Put.{Keeps, dedup_from_keeps, keeps_put, keeps_some}
use Rattle.commonware_ordered.proofs.SameItems.{EqualsSameItems_from_IsDedup}
use Rattle.commonware_ordered.proofs.Taken.{drawn_one, on_err}
use Rattle.commonware_ordered.proofs.set.Set.from_iter_dedup.Goals as goal

pub loop-item-preserved : goal.loop-item-preserved
loop-item-preserved g c = record {
  keeps = keeps_put g.met.T.Ord.total _ _ _ _ c.in_ok-more.field-0-1 c.loop-item.invariant.keeps c.in_ok-more.ensures.put;
  strict = c.in_ok-more.ensures.strict;
  apart = c.in_ok-more.ensures.apart;
}

pub returns-in_err-more-clause-nothing : goal.returns-in_err-more-clause-nothing
returns-in_err-more-clause-nothing g c =
    let given = subst (g.I.IntoIterator.into_iter_gives c.args.iter) (sym c.into_iter-item-iterator.ensures.into_iter_gives) c.into_iter-rest.ensures.into_iter_gives in
    on_err c.from_residual.result (drawn_one g.I.IntoIterator.into_iter_gives g.I.IntoIter.Iterator.next_gives c.args.iter _ _ _ c.loop-item.yielded c.in-Some.item given c.loop-item.yielded_by c.in-Some.ensures.steps)

pub returns-in_err-items-clause-nothing : goal.returns-in_err-items-clause-nothing
returns-in_err-items-clause-nothing g c =
    let kept : 1 ≤ length (c.loop-item.run.items ++ c.loop-item.tree.keys) = omega (arith, length-append c.loop-item.run.items c.loop-item.tree.keys, c.in_err-items.ensures.nothing) in
    let some = keeps_some g.met.T.Ord.total c.loop-item.yielded _ c.loop-item.invariant.keeps kept in
    let given = subst (g.I.IntoIterator.into_iter_gives c.args.iter) (sym c.into_iter-item-iterator.ensures.into_iter_gives) c.into_iter-rest.ensures.into_iter_gives in
    on_err c.from_residual-in_err-items.result (c.into_iter-item-iterator.result, given, (c.loop-item.yielded, false, (c.loop-item.item-iterator, c.loop-item.yielded_by, λ ended. absurd (true≢false (sym ended))), some))

pub returns-clause-dedup : goal.returns-clause-dedup
returns-clause-dedup g c =
    let keeps = subst (Keeps g.met.T.Ord.total c.loop-item.yielded) (sym c.in_ok-items.ensures.items) c.loop-item.invariant.keeps in
    let whole = dedup_from_keeps g.met.T.Ord.total g.met.T.Ord.matches_eq c.loop-item.yielded c.in_ok-items.items.items c.in_ok-items.ensures.strict keeps in
    let law = EqualsSameItems_from_IsDedup g.met.T.Ord.total g.met.T.Ord.matches_eq c.loop-item.yielded _ whole in
    search rules
