use Rattle.std.proofs.Common.{◌≡◌, ◌++◌, take}
use Rattle.std.specs.List.{flat_map}
use Rattle.commonware_base.proofs.codec.list.push_items.Given as goal

abbrev pub invariant-loop-item : goal.invariant-loop-item
invariant-loop-item g l = l.sink.items ≡ l.fn.sink.items ++ flat_map g.T.EncodeSize.enc (take l.item-index l.items)
