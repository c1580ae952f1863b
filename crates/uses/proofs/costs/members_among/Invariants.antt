use Rattle.std.proofs.Common.{◌≡◌, ◌≤◌, ◌+◌, ◌-◌, ◌*◌, length, take}
use Rattle.std.specs.List.{filter, list_any}
use Rattle.uses.proofs.costs.members_among.Given as goal

abbrev pub invariant-loop-i : goal.invariant-loop-i
invariant-loop-i g l =
    (l.members ≡ length (filter (λ key. list_any (λ y. g.T.PartialEq.eq y key) l.committee) (take l.i l.keys)))
    × (l.i ≤ length l.keys) × (l.members ≤ l.i)
    × (g.C.Counter.counted l.count ≤ g.C.Counter.counted l.fn.count + 16 * l.i)

abbrev pub decreases-loop-i : goal.decreases-loop-i
decreases-loop-i g l = length l.keys - l.i
