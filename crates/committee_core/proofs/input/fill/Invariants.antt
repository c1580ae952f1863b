use Rattle.std.proofs.Common.{◌≡◌, ◌-◌, ◌≤◌, length, take}
use Rattle.std.specs.Io.KnownBytes.{Consumes}
use Rattle.committee_core.proofs.input.fill.Given as goal

-- what was read so far is in the room
abbrev pub invariant-loop-kept : goal.invariant-loop-kept
invariant-loop-kept g l =
    (l.input.failed ≡ l.initial.input.failed)
    × (l.kept ≤ length l.room)
    × (length l.room ≡ length l.initial.room)
    × Consumes (g.R.Read.remaining l.initial.input.inner) (g.R.Read.remaining l.input.inner) (take l.kept l.room)

-- how many places are left
abbrev pub decreases-loop-kept : goal.decreases-loop-kept
decreases-loop-kept g l = length l.room - l.kept
