use Rattle.std.proofs.Common.{◌≡◌, ◌≤◌, ◌+◌, ◌*◌, [], List, ℕ, length, true}
use Rattle.std.specs.Io.KnownBytes.{Appends, Consumes}
use Rattle.judge_core.specs.Answered.{Continues, HasNoFeed}
use Rattle.judge_core.proofs.stream.answer_all.Given as goal

-- the whole lines of the text so far were answered, each piece of which had a byte at least
abbrev pub invariant-loop-piece : goal.invariant-loop-piece
invariant-loop-piece g l =
    (l.input.failed ≡ l.initial.input.failed)
    × (l.output.failed ≡ l.initial.output.failed)
    × HasNoFeed l.pending
    × (l.judged ≡ true → l.errors ≡ l.initial.errors)
    × ((text said noted : List ℕ) × Consumes (g.R.Read.remaining l.initial.input.inner) (g.R.Read.remaining l.input.inner) text
    × Appends (g.W.Write.contents l.initial.output.inner) (g.W.Write.contents l.output.inner) said
    × Appends (g.E.Write.contents l.initial.errors) (g.E.Write.contents l.errors) noted
    × Continues l.numbered 1 [] text l.number l.pending said noted l.judged
    × (l.number ≤ 1 + length text)
    × (l._piece ≤ length text)
    × (length text ≤ 65536 * l._piece))
