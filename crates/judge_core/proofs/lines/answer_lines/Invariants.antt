use Rattle.std.proofs.Common.{◌≡◌, ◌≤◌, ◌+◌, ℕ, List, ◌++◌, length, true}
use Rattle.std.specs.Io.KnownBytes.{Appends}
use Rattle.judge_core.specs.Answered.{Continues, HasNoFeed}
use Rattle.judge_core.specs.Said.{Says}
use Rattle.judge_core.proofs.lines.answer_lines.Given as goal

-- the lines of what is gone of the piece were answered
abbrev pub invariant-loop-at : goal.invariant-loop-at
invariant-loop-at g l =
    HasNoFeed l.pending
    × (l.output.failed ≡ l.initial.output.failed)
    × (l.judged ≡ true → l.errors ≡ l.initial.errors)
    × ((gone said noted : List ℕ) × (l.piece ≡ gone ++ l.rest)
    × (l.number ≤ l.initial.number + length gone)
    × Says (g.W.Write.contents l.initial.output.inner) (g.W.Write.contents l.output.inner) l.initial.room l.room said
    × Appends (g.E.Write.contents l.initial.errors) (g.E.Write.contents l.errors) noted
    × Continues l.numbered l.initial.number l.initial.pending gone l.number l.pending said noted l.judged)

-- how many bytes are left
abbrev pub decreases-loop-at : goal.decreases-loop-at
decreases-loop-at g l = length l.rest
