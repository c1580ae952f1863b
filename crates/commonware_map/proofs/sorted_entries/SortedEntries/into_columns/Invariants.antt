use Rattle.std.proofs.Common.{◌≡◌, ◌++◌}
use Rattle.commonware_map.proofs.sorted_entries.SortedEntries.into_columns.Given as goal

abbrev pub invariant-loop-key : goal.invariant-loop-key
invariant-loop-key g l = l.run ++ l.key-iterator ≡ l.fn.self
