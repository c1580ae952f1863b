use Rattle.std.proofs.Common.{◌≡◌, ◌≤◌, ◌-◌}
use Rattle.std.specs.List.{AllAdjacentBelow}
use Rattle.std.specs.declared.cmp.Ordering.TheVariants.{Less}
use Rattle.commonware_sequence.specs.FixedBytes.{bytes_cmp}
use Rattle.commonware_c.proofs.in_order.are_in_order.Given as goal

abbrev pub invariant-loop-index : goal.invariant-loop-index
invariant-loop-index l = (1 ≤ l.index) × AllAdjacentBelow (λ x y. bytes_cmp x y ≡ Less) l.items l.index

abbrev pub decreases-loop-index : goal.decreases-loop-index
decreases-loop-index l = l.count - l.index
