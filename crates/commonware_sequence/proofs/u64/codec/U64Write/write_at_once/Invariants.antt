use Rattle.std.proofs.Common.{◌≡◌, ◌++◌, take}
use Rattle.std.specs.List.{flat_map}
use Rattle.commonware_sequence.specs.U64.{u64_bytes}
use Rattle.commonware_sequence.proofs.u64.codec.U64Write.write_at_once.Given as goal

abbrev pub invariant-loop-item : goal.invariant-loop-item
invariant-loop-item g l = l.sink.items ≡ l.fn.sink.items ++ flat_map u64_bytes (take l.item-index l.items)
