use Rattle.std.proofs.Common.{◌≡◌, ◌≤◌, ◌+◌, ◌-◌, length, take}
use Rattle.std.specs.List.{flat_map}
use Rattle.commonware_c.specs.Splices.{spliced}
use Rattle.commonware_c.proofs.rooms.put_items.Given as goal

abbrev pub invariant-loop-i : goal.invariant-loop-i
invariant-loop-i l =
    (l.i ≤ length l.items) × (l.next ≡ l.at + length (flat_map (λ item. item.now) (take l.i l.items)))
    × (l.out ≡ spliced l.at (flat_map (λ item. item.now) (take l.i l.items)) l.fn.out)

abbrev pub decreases-loop-i : goal.decreases-loop-i
decreases-loop-i l = length l.items - l.i
