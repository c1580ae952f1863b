use Rattle.std.proofs.Common.{◌≡◌, take}
use Rattle.judge_verdicts.proofs.weights.numbers_of.Given as goal

-- the numbers so far
abbrev pub invariant-loop-item : goal.invariant-loop-item
invariant-loop-item g l = l.numbers.items ≡ take l.item-index l.items
