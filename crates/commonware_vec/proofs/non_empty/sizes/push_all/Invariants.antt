use Rattle.std.proofs.Common.{◌≡◌, ◌++◌}
use Rattle.commonware_vec.proofs.non_empty.sizes.push_all.Given as goal

abbrev pub invariant-loop-item : goal.invariant-loop-item
invariant-loop-item g l = l.items.items ≡ l.fn.items.items ++ l.yielded
