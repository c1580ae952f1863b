use Rattle.std.proofs.Common.{◌≡◌, ◌≤◌, ◌<◌, ◌-◌, ℕ, length, get_or}
use Rattle.commonware_views.proofs.repeats.sort_places.Given as goal

abbrev pub invariant-loop-i : goal.invariant-loop-i
invariant-loop-i l =
    (l.i ≤ length l.places) × (length l.places ≡ length l.fn.places)
    × ((k : ℕ) (d : ℕ) → k < l.i → get_or l.places k d ≡ k)

abbrev pub decreases-loop-i : goal.decreases-loop-i
decreases-loop-i l = length l.places - l.i
