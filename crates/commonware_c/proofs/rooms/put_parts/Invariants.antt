use Rattle.std.proofs.Common.{◌≡◌, ◌≤◌, ◌+◌, ◌-◌, drop, length, take}
use Rattle.std.specs.List.{flat_map}
use Rattle.commonware_c.specs.Splices.{spliced}
use Rattle.commonware_c.proofs.rooms.put_parts.Given as goal

abbrev pub invariant-loop-index : goal.invariant-loop-index
invariant-loop-index l =
    (l.index ≤ length l.rows)
    × (l.next ≡ l.at + length (flat_map (λ row. take l.size (drop l.first row)) (take l.index l.rows)))
    × (l.out ≡ spliced l.at (flat_map (λ row. take l.size (drop l.first row)) (take l.index l.rows)) l.fn.out)

abbrev pub decreases-loop-index : goal.decreases-loop-index
decreases-loop-index l = l.count - l.index
