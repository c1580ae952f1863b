use Rattle.std.proofs.Common.{◌≡◌}
use Rattle.commonware_vec.proofs.non_empty.builders.NonEmptyVecTryFromIterator.try_from_iter.Given as goal

abbrev pub invariant-loop-item : goal.invariant-loop-item
invariant-loop-item g l = l.items.items ≡ l.yielded
