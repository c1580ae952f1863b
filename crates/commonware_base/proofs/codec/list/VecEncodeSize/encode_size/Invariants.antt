use Rattle.std.proofs.Common.{◌≡◌, ◌+◌, length, take}
use Rattle.std.specs.List.{flat_map}
use Rattle.commonware_base.specs.Varint.{varint}
use Rattle.commonware_base.proofs.codec.list.VecEncodeSize.encode_size.Given as goal

abbrev pub invariant-loop-item : goal.invariant-loop-item
invariant-loop-item g l = l.size ≡ length (varint (length l.item-items)) + length (flat_map g.T.EncodeSize.enc (take l.item-index l.item-items))
