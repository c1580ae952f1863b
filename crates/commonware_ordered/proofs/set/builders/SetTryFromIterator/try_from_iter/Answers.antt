use Rattle.std.proofs.Common.{◌≤◌, ◌++◌, arith, length, length-append, subst, sym}
use Rattle.std.specs.List.Sorted.{IsPermutation}
use Rattle.std.proofs.lemmas.List.Sorted.{length_permutation}
use Rattle.commonware_ordered.specs.Whole.{IsRefusedFor}
use Rattle.commonware_ordered.proofs.Put.{all_put, equal_items_put}
use Rattle.commonware_ordered.proofs.Taken.{memory_after, memory_refuses, refused_at_repeat, refused_for_drawn}
use Rattle.commonware_ordered.proofs.Whole.{whole_from_strict}
use Rattle.commonware_ordered.proofs.set.builders.SetTryFromIterator.try_from_iter.Goals as goal

pub returns-in_err-more-clause-err : goal.returns-in_err-more-clause-err
returns-in_err-more-clause-err g c =
    memory_after g.I.IntoIterator.into_iter_gives g.I.IntoIter.Iterator.next_gives g.T.PartialEq.eq c.args.iter _ _ _ c.loop-item.yielded c.in-Some.item c.from_residual.result
    (subst (g.I.IntoIterator.into_iter_gives c.args.iter) (sym c.into_iter-item-iterator.ensures.into_iter_gives) c.into_iter-rest.ensures.into_iter_gives)
    c.loop-item.yielded_by c.in-Some.ensures.steps c.from_residual.ensures.1

pub returns-in_err-items-clause-err : goal.returns-in_err-items-clause-err
returns-in_err-items-clause-err g c =
    let some : 1 ≤ length c.loop-item.yielded = omega (arith, length_permutation c.loop-item.yielded (c.loop-item.run.items ++ c.loop-item.tree.keys) c.loop-item.invariant.all, length-append c.loop-item.run.items c.loop-item.tree.keys, c.in_err-items.ensures.nothing) in
    refused_for_drawn g.I.IntoIterator.into_iter_gives g.I.IntoIter.Iterator.next_gives (IsRefusedFor g.T.PartialEq.eq) c.args.iter _ _ c.loop-item.yielded c.from_residual-in_err-items.result
    (subst (g.I.IntoIterator.into_iter_gives c.args.iter) (sym c.into_iter-item-iterator.ensures.into_iter_gives) c.into_iter-rest.ensures.into_iter_gives)
    c.loop-item.yielded_by (memory_refuses g.T.PartialEq.eq c.loop-item.yielded c.from_residual-in_err-items.result some c.from_residual-in_err-items.ensures.1)

pub returns-then-not-new-clause-err : goal.returns-then-not-new-clause-err
returns-then-not-new-clause-err g c =
    refused_at_repeat g.I.IntoIterator.into_iter_gives g.I.IntoIter.Iterator.next_gives g.T.PartialEq.eq c.args.iter _ _ _ c.loop-item.yielded c.in-Some.item
    (subst (g.I.IntoIterator.into_iter_gives c.args.iter) (sym c.into_iter-item-iterator.ensures.into_iter_gives) c.into_iter-rest.ensures.into_iter_gives)
    c.loop-item.yielded_by c.in-Some.ensures.steps
    (equal_items_put g.met.T.Ord.total g.met.T.Ord.matches_eq _ _ _ c.in-Some.item c.in_ok-more.new c.if-not-new.true c.loop-item.invariant.all c.in_ok-more.ensures.put)

pub loop-item-preserved : goal.loop-item-preserved
loop-item-preserved g c = record {
  all = all_put g.met.T.Ord.total _ _ _ c.in-Some.item c.in_ok-more.new c.if-not-new.false c.loop-item.invariant.all c.in_ok-more.ensures.put;
  strict = c.in_ok-more.ensures.strict;
  apart = c.in_ok-more.ensures.apart;
}

pub returns-clause-ok : goal.returns-clause-ok
returns-clause-ok g c =
    let whole = whole_from_strict g.met.T.Ord.total g.met.T.Ord.matches_eq g.met.T.Eq.laws.symm c.loop-item.yielded c.in_ok-items.items.items
    (subst (IsPermutation c.loop-item.yielded) (sym c.in_ok-items.ensures.items) c.loop-item.invariant.all) c.in_ok-items.ensures.strict in
    let given = subst (g.I.IntoIterator.into_iter_gives c.args.iter) (sym c.into_iter-item-iterator.ensures.into_iter_gives) c.into_iter-rest.ensures.into_iter_gives in
    (c.into_iter-item-iterator.result, c.loop-item.yielded, given, (c.next.new.self, (c.loop-item.item-iterator, c.loop-item.yielded_by, c.in-None.ensures.steps)), whole)
