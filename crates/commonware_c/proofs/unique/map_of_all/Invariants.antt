use Rattle.std.proofs.Common.{◌≤◌, ◌-◌, length}
use Rattle.commonware_c.proofs.Repeats.{AreFirst}
use Rattle.commonware_c.proofs.unique.map_of_all.Given as goal

abbrev pub invariant-loop-row : goal.invariant-loop-row
invariant-loop-row l = (l.index ≤ length l.rows) × AreFirst l.key_size l.rows l.index l.entries

abbrev pub decreases-loop-row : goal.decreases-loop-row
decreases-loop-row l = length l.rows - l.index
