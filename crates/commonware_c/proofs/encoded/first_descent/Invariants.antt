use Rattle.std.proofs.Common.{◌≤◌, ◌<◌, ◌-◌, length}
use Rattle.std.specs.List.{AllAdjacentBelow}
use Rattle.commonware_c.proofs.encoded.first_descent.Given as goal

abbrev pub invariant-loop-i : goal.invariant-loop-i
invariant-loop-i l = (1 ≤ l.i) × AllAdjacentBelow (λ x y. x < y) l.signers l.i

abbrev pub decreases-loop-i : goal.decreases-loop-i
decreases-loop-i l = length l.signers - l.i
