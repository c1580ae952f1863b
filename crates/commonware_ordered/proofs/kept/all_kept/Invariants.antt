use Rattle.std.proofs.Common.{◌≡◌, ◌++◌}
use Rattle.commonware_ordered.proofs.kept.all_kept.Given as goal

abbrev pub invariant-loop-item : goal.invariant-loop-item
invariant-loop-item g l = l.items.items ++ l.item-iterator ≡ l.fn.run.items ++ l.fn.tree.keys
