use Rattle.std.proofs.Common.{◌≡◌, ℕ, ◌+◌, ◌≤◌, List}
use Rattle.std.specs.Ordering.{nat_cmp}
use Rattle.commonware_ordered.specs.Strict.{IsStrict}
use Rattle.committee_certificates.proofs.Ascended.{ArePassed}
use Rattle.committee_certificates.proofs.ascent.write_common.Given as goal

abbrev pub invariant-loop-two : goal.invariant-loop-two
invariant-loop-two g l =
    let left = g.P.Ascent.left in
    let numbers = g.P.Ascent.indices in
    (l.found + left l.one ≤ left l.fn.first)
    × ((firsts seconds : List ℕ) → IsStrict nat_cmp firsts → IsStrict nat_cmp seconds
    → g.P.Ascent.is_at l.fn.first firsts → g.P.Ascent.is_at l.fn.second seconds
    → ArePassed _ g.P.Ascent.is_at firsts seconds l.one l.two l.found (numbers l.fn.out) (numbers l.out))
    × (g.C.Counter.counted l.count + l.found + left l.one + left l.two
    ≤ g.C.Counter.counted l.fn.count + left l.fn.first + left l.fn.second)
    × ((firsts seconds : List ℕ) → IsStrict nat_cmp firsts → IsStrict nat_cmp seconds
    → g.P.Ascent.is_at l.fn.first firsts → g.P.Ascent.is_at l.fn.second seconds → g.C.Counter.step ≡ 1
    → (g.C.Counter.counted l.fn.count + left l.fn.first ≤ g.C.Counter.counted l.count + left l.one)
    × (g.C.Counter.counted l.fn.count + left l.fn.second ≤ g.C.Counter.counted l.count + left l.two))

abbrev pub decreases-loop-two : goal.decreases-loop-two
decreases-loop-two g l = g.P.Ascent.left l.one + g.P.Ascent.left l.two
