use Rattle.std.proofs.Common.{◌-◌, length}
use Rattle.commonware_views.proofs.Neighbours.{IsLeastSame}
use Rattle.commonware_views.proofs.repeats.repeat_among.Given as goal

abbrev pub invariant-loop-i : goal.invariant-loop-i
invariant-loop-i l = IsLeastSame l.items l.places l.found l.i

abbrev pub decreases-loop-i : goal.decreases-loop-i
decreases-loop-i l = length l.places - l.i
