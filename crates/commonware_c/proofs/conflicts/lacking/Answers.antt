use Rattle.std.proofs.Common.{arith}
use Rattle.commonware_c.proofs.SignedBoth.{fewer_than_first, fewer_than_second, not_more_than}
use Rattle.commonware_c.proofs.conflicts.lacking.Goals as goal
use Rattle.commonware_c.proofs.conflicts.lacking.Goals.{then-count-places-via-then-count-places}
use Rattle.commonware_c.proofs.conflicts.lacking.Goals.{then-count-places-via-else-count-places+then-count-places-2}

pub returns-then-count-places-clause-none : goal.returns-then-count-places-clause-none
returns-then-count-places-clause-none g c = λ one two both first second in_both. elim c.then-count-places.branch [
  | then-count-places-via-then-count-places w ↦
      omega (arith, w.if-count-places.true, c.count.ensures.count one first, fewer_than_first one two both in_both)
  | then-count-places-via-else-count-places+then-count-places-2 w ↦
      omega (
        arith,
        w.if-count-places-2.true,
        w.count-else-count-places.ensures.count two second,
        fewer_than_second one two both in_both,
      )
]

pub returns-then-count-places-3-clause-none : goal.returns-then-count-places-3-clause-none
returns-then-count-places-3-clause-none g c = λ one two both first second in_both.
    let w = c.write_both_counted-count.ensures.both one two first second in
    omega (arith, not_more_than one two both in_both w.both w.in_both, w.count_is, c.if-count-places-3.true)

pub returns-else-count-places-3-clause-some : goal.returns-else-count-places-3-clause-some
returns-else-count-places-3-clause-some g c = λ one two first second.
    let w = c.write_both_counted-count.ensures.both one two first second in
    (w.both, w.in_both, w.count_is, omega (arith, c.if-count-places-3.false))

pub returns-then-count-places-clause-least : goal.returns-then-count-places-clause-least
returns-then-count-places-clause-least g c = λ one two first second less less'. absurd (elim c.then-count-places.branch [
  | then-count-places-via-then-count-places w ↦ omega (arith, w.if-count-places.true, c.count.ensures.count one first, less)
  | then-count-places-via-else-count-places+then-count-places-2 w ↦
      omega (arith, w.if-count-places-2.true, w.count-else-count-places.ensures.count two second, less')
])

pub returns-then-count-places-3-clause-least : goal.returns-then-count-places-3-clause-least
returns-then-count-places-3-clause-least g c = λ one two first second less less'.
    c.write_both_counted-count.ensures.least one two first second

pub returns-else-count-places-3-clause-least : goal.returns-else-count-places-3-clause-least
returns-else-count-places-3-clause-least g c = λ one two first second less less'.
    c.write_both_counted-count.ensures.least one two first second
