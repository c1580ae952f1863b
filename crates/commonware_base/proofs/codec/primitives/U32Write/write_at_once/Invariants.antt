use Rattle.std.proofs.Common.{◌≡◌, ◌+◌, ◌*◌, ◌≤◌, ◌++◌, length, take}
use Rattle.std.specs.Prelude.{vec_capacity}
use Rattle.std.specs.List.{flat_map}
use Rattle.commonware_base.specs.Words.{word_bytes}
use Rattle.commonware_base.proofs.codec.primitives.U32Write.write_at_once.Given as goal

abbrev pub invariant-loop-item : goal.invariant-loop-item
invariant-loop-item g l = (l.sink.items ≡ l.fn.sink.items ++ flat_map word_bytes (take l.item-index l.items)) × (length l.sink.items + 4 * length l.items ≤ 4 * l.item-index + vec_capacity l.sink)
