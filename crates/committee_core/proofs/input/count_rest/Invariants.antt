use Rattle.std.proofs.Common.{◌≡◌, ℕ, ◌+◌, ◌-◌, ◌^◌, List, length}
use Rattle.std.specs.Io.KnownBytes.{Consumes}
use Rattle.committee_core.proofs.input.count_rest.Given as goal

-- what was read so far is counted
abbrev pub invariant-loop-n : goal.invariant-loop-n
invariant-loop-n g l =
    (l.input.failed ≡ l.initial.input.failed)
    × ((rest : List ℕ) × Consumes (g.R.Read.remaining l.initial.input.inner) (g.R.Read.remaining l.input.inner) rest × (l.fn.before + length rest ≡ l.total))

-- how many more bytes could still be counted
abbrev pub decreases-loop-n : goal.decreases-loop-n
decreases-loop-n g l = 2 ^ 64 - l.total
