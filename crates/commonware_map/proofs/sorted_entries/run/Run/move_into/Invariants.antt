use Rattle.commonware_ordered.proofs.Zipped.{LeftOf}
use Rattle.commonware_map.proofs.sorted_entries.run.Run.move_into.Given as goal

abbrev pub invariant-loop-key : goal.invariant-loop-key
invariant-loop-key g l = LeftOf l.fn.self l.tree.entries l.key-iterator
