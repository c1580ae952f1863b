use Rattle.std.proofs.Common.{◌≡◌, take}
use Rattle.committee_weights.proofs.weights.numbers_of.Given as goal

abbrev pub invariant-loop-value : goal.invariant-loop-value
invariant-loop-value g l = l.numbers.items ≡ take l.value-index l.values
