use Rattle.commonware_ordered.proofs.InOrder.{LeftIn}
use Rattle.commonware_ordered.proofs.kept.move_into.Given as goal

abbrev pub invariant-loop-item : goal.invariant-loop-item
invariant-loop-item g l = LeftIn l.fn.run.items l.tree.keys l.item-iterator
