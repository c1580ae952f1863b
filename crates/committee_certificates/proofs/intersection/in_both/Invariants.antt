use Rattle.std.proofs.Common.{◌≡◌, ◌≤◌, ◌+◌, ◌-◌, length}
use Rattle.committee_certificates.proofs.Merged.{IsMerged}
use Rattle.committee_certificates.proofs.intersection.in_both.Given as goal

abbrev pub invariant-loop-i : goal.invariant-loop-i
invariant-loop-i g l =
    IsMerged g.T.Order.order g.T.Order.same l.first l.second l.i l.j l.both.items
    × (l.i ≤ length l.first) × (l.j ≤ length l.second)
    × (g.C.Counter.counted l.count + length l.both.items ≤ g.C.Counter.counted l.fn.count + l.i + l.j)
    × (g.C.Counter.step ≡ 1 → g.C.Counter.counted l.fn.count + l.i ≤ g.C.Counter.counted l.count)
    × (g.C.Counter.step ≡ 1 → g.C.Counter.counted l.fn.count + l.j ≤ g.C.Counter.counted l.count)

abbrev pub decreases-loop-i : goal.decreases-loop-i
decreases-loop-i g l = (length l.first - l.i) + (length l.second - l.j)
