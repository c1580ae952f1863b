use Rattle.std.proofs.Common.{◌-◌, ◌≡◌, ◌+◌, ◌<◌, ◌≤◌, ℕ, List, get_or, length}
use Rattle.std.specs.List.{AllAdjacentBelow}
use Rattle.std.specs.declared.cmp.Ordering.TheVariants.{Less}
use Rattle.commonware_sequence.specs.FixedBytes.{bytes_cmp}
use Rattle.commonware_views.proofs.order.are_strict_from.Given as goal

abbrev pub invariant-loop-i : goal.invariant-loop-i
invariant-loop-i g l =
    let keys = g.K.Keys.keys l.keys in
    (0 < l.i) × (l.i ≤ length keys) × ((d : List ℕ) → g.K.Key.CountedKey.bytes l.last ≡ get_or keys (l.i - 1) d)
    × AllAdjacentBelow (λ x y. bytes_cmp x y ≡ Less) keys l.i
    × (g.C.Counter.counted l.counter + l.from ≤ g.C.Counter.counted l.fn.counter + l.i)
    × (g.C.Counter.step ≡ 1 → g.C.Counter.counted l.fn.counter + l.i ≤ g.C.Counter.counted l.counter + l.from)

abbrev pub decreases-loop-i : goal.decreases-loop-i
decreases-loop-i g l = l.count - l.i
