use Rattle.std.proofs.Common.{rules, arith, ◌+◌, ◌^◌, ◌≤◌, length, subst, sym}
use Rattle.committee_certificates.proofs.Summed.{IsSummed, summed_all, summed_more, summed_none, summed_outside, summed_past, unless}
use Rattle.committee_certificates.proofs.in_place.SignersAt.sum_of.Goals as goal

pub loop-cursor-init : goal.loop-cursor-init
loop-cursor-init c = (
  omega arith,
  search rules,
  λ indices found.
      summed_none c.args.numbers.now indices c.first_place-cursor.result (c.first_place-cursor.ensures.at indices found),
)

pub loop-cursor-preserved : goal.loop-cursor-preserved
loop-cursor-preserved c =
    let numbers = c.args.numbers.now in
    let cursor = c.loop-cursor.cursor in
    let at = c.in_ok-number.ensures.lookup.3 in (
      omega (arith, c.in_ok-sum.ensures.0, c.in_ok-sum.ensures.1),
      search rules,
      λ indices found.
          let p = c.loop-cursor.invariant.2 indices found in
          subst (IsSummed numbers indices c.next_place-cursor.result) (sym c.in_ok-sum.ensures.1)
          (summed_more numbers indices cursor c.loop-cursor.sum p c.loop-cursor-test.true c.next_place-cursor.result
          c.in_ok-number.number.now c.next_place-cursor.ensures.at at.0 (at.1 0)),
    )

pub returns-in_err-number : goal.returns-in_err-number
returns-in_err-number c = λ indices found.
    let numbers = c.args.numbers.now in
    let p = c.loop-cursor.invariant.2 indices found in
    let outside : length numbers ≤ c.loop-cursor.cursor.index = search rules in
    unless _ c.from_residual.ensures
    (λ all. summed_outside numbers indices c.loop-cursor.cursor c.loop-cursor.sum p c.loop-cursor-test.true outside all.0)

pub returns-in_err-sum : goal.returns-in_err-sum
returns-in_err-sum c = λ indices found.
    let numbers = c.args.numbers.now in
    let p = c.loop-cursor.invariant.2 indices found in
    let at = c.in_ok-number.ensures.lookup.3 in
    let most = summed_past numbers indices c.loop-cursor.cursor c.loop-cursor.sum p c.loop-cursor-test.true
    c.in_ok-number.number.now (at.1 0) in
    let past : 2 ^ 64 ≤ c.loop-cursor.sum + c.in_ok-number.number.now = search rules in
    unless _ c.from_residual-in_err-sum.ensures (λ all. omega (arith, most, past, all.1))

pub returns : goal.returns
returns c = λ indices found.
    let all =
    summed_all c.args.numbers.now indices c.loop-cursor.cursor c.loop-cursor.sum (c.loop-cursor.invariant.2 indices found)
    c.loop-cursor-test.false in
    ((all.0, omega (arith, all.1, c.loop-cursor.invariant.0)), all.1)
