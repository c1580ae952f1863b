use Rattle.std.proofs.Common.{◌≡◌, ◌≤◌, ◌*◌, ◌-◌, length, take}
use Rattle.std.specs.List.{flat_map}
use Rattle.commonware_base.specs.Varint.{varint}
use Rattle.commonware_c.proofs.encoded.signers_size.Given as goal

abbrev pub invariant-loop-i : goal.invariant-loop-i
invariant-loop-i l =
    (l.i ≤ length l.signers) × (l.size ≡ length (flat_map varint (take l.i l.signers))) × (l.size ≤ 5 * l.i)

abbrev pub decreases-loop-i : goal.decreases-loop-i
decreases-loop-i l = length l.signers - l.i
