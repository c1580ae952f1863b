use Rattle.std.proofs.Common.{◌≡◌, ◌≤◌, length, drop}
use Rattle.commonware_base.specs.Varint.{groups_sum}
use Rattle.commonware_base.proofs.codec.varint.groups_value.Given as goal

abbrev pub invariant-loop-i : goal.invariant-loop-i
invariant-loop-i l = (l.i ≤ length l.bytes) × (l.number ≡ groups_sum (drop l.i l.bytes))

abbrev pub decreases-loop-i : goal.decreases-loop-i
decreases-loop-i l = l.i
