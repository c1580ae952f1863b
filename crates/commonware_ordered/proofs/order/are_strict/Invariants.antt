use Rattle.std.proofs.Common.{◌≡◌, ◌≤◌, ◌+◌, ◌-◌, length}
use Rattle.std.specs.List.{AllAdjacentBelow}
use Rattle.std.specs.declared.cmp.Ordering.TheVariants.{Less}
use Rattle.commonware_ordered.proofs.order.are_strict.Given as goal

abbrev pub invariant-loop-i : goal.invariant-loop-i
invariant-loop-i g l =
    (1 ≤ l.i) × (l.i - 1 ≤ length l.items - 1) × (g.C.Counter.counted l.count ≤ g.C.Counter.counted l.fn.count + (l.i - 1))
    × (g.C.Counter.step ≡ 1 → g.C.Counter.counted l.fn.count + (l.i - 1) ≤ g.C.Counter.counted l.count)
    × AllAdjacentBelow (λ x y. g.T.Order.order x y ≡ Less) l.items l.i

abbrev pub decreases-loop-i : goal.decreases-loop-i
decreases-loop-i g l = length l.items - l.i
