use Rattle.std.proofs.Common.{◌-◌, false, sym, ap, ◌∙◌, arith}
use Rattle.std.specs.Ordering.{is_lt}
use Rattle.commonware_ordered.proofs.Adjacent.{strict_told}
use Rattle.commonware_ordered.proofs.order.are_strict.Goals as goal

pub returns-then-not-is_lt-clause-strict : goal.returns-then-not-is_lt-clause-strict
returns-then-not-is_lt-clause-strict g c =
    let more = c.loop-i-test.true in
    let one = c.loop-i.invariant.0 in
    strict_told g.T.Order.order c.args.items.now false
    (c.loop-i.i - 1, omega arith, λ d. sym c.if-not-is_lt.true ∙ (c.is_lt.ensures ∙ ap is_lt (c.cmp_next.ensures.value d)))
