use Rattle.std.proofs.Common.{arith}
use Rattle.commonware_ordered.proofs.SearchCosts.{cost_of_halvings}
use Rattle.commonware_ordered.proofs.search.last_steps.Goals as goal

pub returns-clause-place : goal.returns-clause-place
returns-clause-place g c = λ k there h.
    let one = c.half-place.ensures.window in
    let p = c.half-place.ensures.within k there h in
    let low = p.0 in
    let high = p.1 in
    omega arith

pub returns-clause-cost : goal.returns-clause-cost
returns-clause-cost g c =
    cost_of_halvings c.args.size c.half-base.result.1 c.half-base-2.result.1 c.half-base-3.result.1 (g.C.Counter.counted c.args.count.now) (g.C.Counter.counted c.half-base.new.count) (g.C.Counter.counted c.half-base-2.new.count) (g.C.Counter.counted c.half-base-3.new.count) (g.C.Counter.counted c.half-place.new.count)
    c.half-base.ensures.cost c.half-base-2.ensures.cost c.half-base-3.ensures.cost c.half-place.ensures.cost
    c.half-base.ensures.free c.half-base-2.ensures.free c.half-base-3.ensures.free (λ h. (c.half-place.ensures.free h).0)
