use Rattle.std.proofs.Common.{ℕ, ◌≤◌, ◌<◌, ◌^◌, length, ◌+◌}
use Rattle.commonware_ordered.specs.Strict.{IsWithin}
use Rattle.commonware_ordered.proofs.SearchCosts.{IsLeft}
use Rattle.commonware_ordered.proofs.search.narrowed.Given as goal

abbrev pub invariant-loop-size : goal.invariant-loop-size
invariant-loop-size g l =
    (l.base + l.size ≤ length l.items) × IsWithin g.T.Order.same l.items l.item l.base l.size
    × ((k : ℕ) → length l.items < 2 ^ k → IsLeft (g.C.Counter.counted l.fn.count) (g.C.Counter.counted l.count) l.size k)

abbrev pub decreases-loop-size : goal.decreases-loop-size
decreases-loop-size g l = l.size
