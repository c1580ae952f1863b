use Rattle.std.proofs.Common.{◌≡◌, ◌≤◌, ◌+◌, ◌-◌, length, take}
use Rattle.std.specs.List.{flat_map}
use Rattle.commonware_base.specs.Varint.{varint}
use Rattle.commonware_c.specs.Splices.{spliced}
use Rattle.commonware_c.proofs.encoded.put_signers.Given as goal

abbrev pub invariant-loop-i : goal.invariant-loop-i
invariant-loop-i l =
    (l.i ≤ length l.signers) × (l.next ≡ l.at + length (flat_map varint (take l.i l.signers)))
    × (l.out ≡ spliced l.at (flat_map varint (take l.i l.signers)) l.fn.out)

abbrev pub decreases-loop-i : goal.decreases-loop-i
decreases-loop-i l = length l.signers - l.i
