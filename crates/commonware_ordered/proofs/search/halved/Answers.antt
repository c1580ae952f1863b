use Rattle.std.proofs.Common.{get_or, sym, ap, ◌∙◌, arith}
use Rattle.std.specs.Ordering.{is_eq}
use Rattle.commonware_ordered.proofs.SearchCosts.{left_by_half}
use Rattle.commonware_ordered.proofs.Narrowing.{none_from_only}
use Rattle.commonware_ordered.proofs.search.halved.Goals as goal

pub loop-size-preserved : goal.loop-size-preserved
loop-size-preserved g c = (
  c.halving_step-next.ensures.inside,
  c.halving_step-next.ensures.some,
  c.halving_step-next.ensures.within,
  λ k few. left_by_half (g.C.Counter.counted c.args.count.now) (g.C.Counter.counted c.loop-size.count) (g.C.Counter.counted c.halving_step-next.new.count) c.loop-size.size c.halving_step-next.result.1 k c.halving_step-next.ensures.cost c.loop-size-test.true (c.loop-size.invariant.3 k few),
)

pub returns-else-is_eq-clause-place : goal.returns-else-is_eq-clause-place
returns-else-is_eq-clause-place g c =
    none_from_only g.T.Order.same c.args.items.now c.args.item.now c.loop-size.base
    (λ k there h.
    let p = c.loop-size.invariant.2 k there h in
    let low = p.0 in
    let high = p.1 in
    let one = c.loop-size-test.false in
    omega arith)
    (λ within d. g.met.T.CountedOrd.ties (get_or c.args.items.now c.loop-size.base d) c.args.item.now
    ∙ (ap is_eq (sym (c.cmp_from.ensures.value d)) ∙ (sym c.is_eq.ensures ∙ c.if-is_eq.false)))
