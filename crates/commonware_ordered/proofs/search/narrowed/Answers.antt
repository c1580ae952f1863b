use Rattle.std.proofs.Common.{sym, ◌∙◌, arith}
use Rattle.commonware_ordered.proofs.SearchCosts.{left_by_quarter, cost_of_quarters}
use Rattle.commonware_ordered.proofs.Narrowing.{none_from_only}
use Rattle.commonware_ordered.proofs.search.narrowed.Goals as goal

pub loop-size-preserved : goal.loop-size-preserved
loop-size-preserved g c = (
  c.quartering_step-next.ensures.inside,
  c.quartering_step-next.ensures.within,
  λ k few. left_by_quarter (g.C.Counter.counted c.args.count.now) (g.C.Counter.counted c.loop-size.count) (g.C.Counter.counted c.quartering_step-next.new.count) c.loop-size.size c.quartering_step-next.result.1 k c.quartering_step-next.ensures.cost c.loop-size-test.true (c.loop-size.invariant.2 k few),
)

pub returns-then-place-items-clause-place : goal.returns-then-place-items-clause-place
returns-then-place-items-clause-place g c =
    none_from_only g.T.Order.same c.args.items.now c.args.item.now c.last_steps-place.result c.last_steps-place.ensures.place (λ within d. let past = c.if-place-items.true in absurd (omega arith))

pub returns-then-place-items-clause-cost : goal.returns-then-place-items-clause-cost
returns-then-place-items-clause-cost g c = λ k few.
    let halves = cost_of_quarters (g.C.Counter.counted c.args.count.now) (g.C.Counter.counted c.loop-size.count) c.loop-size.size k (g.C.Counter.counted c.last_steps-place.new.count) (omega (arith, c.loop-size-test.false)) (c.loop-size.invariant.2 k few) c.last_steps-place.ensures.cost in
    omega arith

pub returns-then-eq_at-clause-cost : goal.returns-then-eq_at-clause-cost
returns-then-eq_at-clause-cost g c = λ k few.
    let halves = cost_of_quarters (g.C.Counter.counted c.args.count.now) (g.C.Counter.counted c.loop-size.count) c.loop-size.size k (g.C.Counter.counted c.last_steps-place.new.count) (omega (arith, c.loop-size-test.false)) (c.loop-size.invariant.2 k few) c.last_steps-place.ensures.cost in
    let one = c.eq_at.ensures.cost in
    omega arith

pub returns-else-eq_at-clause-place : goal.returns-else-eq_at-clause-place
returns-else-eq_at-clause-place g c =
    none_from_only g.T.Order.same c.args.items.now c.args.item.now c.last_steps-place.result c.last_steps-place.ensures.place
    (λ within d. sym (c.eq_at.ensures.value d) ∙ c.if-eq_at.false)

pub returns-else-eq_at-clause-cost : goal.returns-else-eq_at-clause-cost
returns-else-eq_at-clause-cost g c = λ k few.
    let halves = cost_of_quarters (g.C.Counter.counted c.args.count.now) (g.C.Counter.counted c.loop-size.count) c.loop-size.size k (g.C.Counter.counted c.last_steps-place.new.count) (omega (arith, c.loop-size-test.false)) (c.loop-size.invariant.2 k few) c.last_steps-place.ensures.cost in
    let one = c.eq_at.ensures.cost in
    omega arith
