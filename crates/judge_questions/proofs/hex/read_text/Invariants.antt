use Rattle.std.proofs.Common.{◌≡◌, ℕ, List, ◌++◌, length}
use Rattle.judge_questions.specs.Hex.{IsHex}
use Rattle.judge_questions.proofs.hex.read_text.Given as goal

-- what was read of the word writes the bytes so far, two digits for each
abbrev pub invariant-loop-rest : goal.invariant-loop-rest
invariant-loop-rest g l = (done : List ℕ) × (l.word ≡ done ++ l.rest) × IsHex done l.bytes

-- how many digits are left
abbrev pub decreases-loop-rest : goal.decreases-loop-rest
decreases-loop-rest g l = length l.rest
