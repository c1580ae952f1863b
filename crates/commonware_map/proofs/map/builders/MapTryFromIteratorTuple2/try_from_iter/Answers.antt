use Rattle.std.proofs.Common.{◌≤◌, arith, length, subst, sym}
use Rattle.std.proofs.lemmas.List.Sorted.{length_permutation}
use Rattle.std.specs.List.Sorted.{IsPermutation}
use Rattle.std.proofs.lemmas.Cmp.{on_total}
use Rattle.commonware_ordered.specs.Whole.{IsRefusedFor}
use Rattle.commonware_ordered.proofs.Put.{all_put, equal_items_put}
use Rattle.commonware_ordered.proofs.Taken.{memory_after, memory_refuses, refused_at_repeat, refused_for_drawn}
use Rattle.commonware_ordered.proofs.Whole.{whole_from_strict}
use Rattle.commonware_map.proofs.map.builders.MapTryFromIteratorTuple2.try_from_iter.Goals as goal

pub returns-in_err-insert_among-clause-err : goal.returns-in_err-insert_among-clause-err
returns-in_err-insert_among-clause-err g c =
    memory_after g.I.IntoIterator.into_iter_gives g.I.IntoIter.Iterator.next_gives (λ (p q : g.row.K.Denot × g.row.V.Denot). g.K.PartialEq.eq p.0 q.0) c.args.iter _ _ _ c.loop-key.yielded (c.in-Some.key, c.in-Some.value)
    c.from_residual.result
    (subst (g.I.IntoIterator.into_iter_gives c.args.iter) (sym c.into_iter-key-iterator.ensures.into_iter_gives) c.into_iter-rest.ensures.into_iter_gives)
    c.loop-key.yielded_by c.in-Some.ensures.steps c.from_residual.ensures.1

pub returns-in_err-map_of-clause-err : goal.returns-in_err-map_of-clause-err
returns-in_err-map_of-clause-err g c =
    let eq = λ (p q : g.row.K.Denot × g.row.V.Denot). g.K.PartialEq.eq p.0 q.0 in
    let some : 1 ≤ length c.loop-key.yielded = omega (arith, length_permutation c.loop-key.yielded c.loop-key.entries c.loop-key.invariant, c.in_err-map_of.ensures.nothing) in
    refused_for_drawn g.I.IntoIterator.into_iter_gives g.I.IntoIter.Iterator.next_gives (IsRefusedFor eq) c.args.iter _ _ c.loop-key.yielded c.from_residual-in_err-map_of.result
    (subst (g.I.IntoIterator.into_iter_gives c.args.iter) (sym c.into_iter-key-iterator.ensures.into_iter_gives) c.into_iter-rest.ensures.into_iter_gives)
    c.loop-key.yielded_by (memory_refuses eq c.loop-key.yielded c.from_residual-in_err-map_of.result some c.from_residual-in_err-map_of.ensures.1)

pub returns-then-not-branch-clause-err : goal.returns-then-not-branch-clause-err
returns-then-not-branch-clause-err g c =
    let total = on_total (λ (p : g.row.K.Denot × g.row.V.Denot). p.0) g.met.K.Ord.total in
    let pair : g.row.K.Denot × g.row.V.Denot = (c.in-Some.key, c.in-Some.value) in
    refused_at_repeat g.I.IntoIterator.into_iter_gives g.I.IntoIter.Iterator.next_gives (λ p q. g.K.PartialEq.eq p.0 q.0) c.args.iter _ _ _ c.loop-key.yielded pair
    (subst (g.I.IntoIterator.into_iter_gives c.args.iter) (sym c.into_iter-key-iterator.ensures.into_iter_gives) c.into_iter-rest.ensures.into_iter_gives)
    c.loop-key.yielded_by c.in-Some.ensures.steps
    (equal_items_put total (λ p q. g.met.K.Ord.matches_eq p.0 q.0) c.loop-key.yielded c.loop-key.entries c.insert_among.new.self pair c.in_ok-insert_among.field-0 c.if-not-branch.true c.loop-key.invariant c.in_ok-insert_among.ensures.put)

pub loop-key-preserved : goal.loop-key-preserved
loop-key-preserved g c =
    let total = on_total (λ (p : g.row.K.Denot × g.row.V.Denot). p.0) g.met.K.Ord.total in
    all_put total c.loop-key.yielded c.loop-key.entries c.insert_among.new.self (c.in-Some.key, c.in-Some.value) c.in_ok-insert_among.field-0 c.if-not-branch.false c.loop-key.invariant c.in_ok-insert_among.ensures.put

pub returns-clause-ok : goal.returns-clause-ok
returns-clause-ok g c =
    let whole = whole_from_strict (on_total (λ (p : g.row.K.Denot × g.row.V.Denot). p.0) g.met.K.Ord.total) (λ p q. g.met.K.Ord.matches_eq p.0 q.0) (λ p q. g.met.K.Eq.laws.symm p.0 q.0) c.loop-key.yielded _
    (subst (IsPermutation c.loop-key.yielded) (sym c.in_ok-map_of.ensures.pairs) c.loop-key.invariant) c.in_ok-map_of.ensures.strict in
    let given = subst (g.I.IntoIterator.into_iter_gives c.args.iter) (sym c.into_iter-key-iterator.ensures.into_iter_gives) c.into_iter-rest.ensures.into_iter_gives in
    (c.into_iter-key-iterator.result, c.loop-key.yielded, given, (c.next.new.self, (c.loop-key.key-iterator, c.loop-key.yielded_by, c.in-None.ensures.steps)), whole)
