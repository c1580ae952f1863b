use Rattle.std.proofs.Common.{take}
use Rattle.std.specs.List.{AllByRecursion}
use Rattle.commonware_base.proofs.codec.list.VecEncodeSize.is_writable.Given as goal

abbrev pub invariant-loop-item : goal.invariant-loop-item
invariant-loop-item g l = AllByRecursion g.T.EncodeSize.writable (take l.item-index l.item-items)
