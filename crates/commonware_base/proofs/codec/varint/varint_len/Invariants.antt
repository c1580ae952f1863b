use Rattle.std.proofs.Common.{◌≤◌, take}
use Rattle.commonware_base.specs.Varint.{AreContinued}
use Rattle.commonware_base.proofs.codec.varint.varint_len.Given as goal

abbrev pub invariant-loop-i : goal.invariant-loop-i
invariant-loop-i l = (l.i ≤ 4) × AreContinued (take l.i l.bytes)
