use Rattle.std.proofs.Common.{◌-◌, ◌+◌, ◌≤◌}
use Rattle.commonware_sequence.specs.BigEndian.{HaveSamePrefix}
use Rattle.commonware_sequence.proofs.order.order_past.Given as goal

abbrev pub invariant-loop-at : goal.invariant-loop-at
invariant-loop-at l = (l.at ≤ l.shorter) × HaveSamePrefix l.at l.mine l.others

abbrev pub decreases-loop-at : goal.decreases-loop-at
decreases-loop-at l = l.shorter + 1 - l.at
