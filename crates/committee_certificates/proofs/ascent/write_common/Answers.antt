use Rattle.std.proofs.Common.{◌∙◌, ◌≤◌, arith, inl, inr, sym}
use Rattle.committee_certificates.proofs.Ascended.{both_all, both_equal, both_greater, both_less, both_none, left_is, one_fewer, told_greater, told_less, told_same}
use Rattle.committee_certificates.proofs.ascent.write_common.Goals as goal

pub loop-two-init : goal.loop-two-init
loop-two-init g c = (
  omega arith,
  (λ firsts seconds rise rise' at at'.
      both_none _ g.P.Ascent.is_at firsts seconds c.args.first c.args.second (g.P.Ascent.indices c.args.out.now) rise rise' at at'),
  omega arith,
  (λ firsts seconds rise rise' at at' counts. (omega arith, omega arith)),
)

pub loop-two-preserved-then-is_lt : goal.loop-two-preserved-then-is_lt
loop-two-preserved-then-is_lt g c =
    let laws = g.met.P.Ascent in
    let one = c.is_over.ensures.is_false c.loop-two-test.true in
    let two = c.is_over-in-loop-two.ensures.is_false c.if-not-is_over.true in
    let less = told_less (g.P.Ascent.index c.loop-two.one) (g.P.Ascent.index c.loop-two.two) c.order-order.result c.order-order.ensures.value (sym c.is_lt.ensures ∙ c.if-is_lt.true) in (
      (let a = c.next-one.ensures.fewer in let h = c.loop-two.invariant.0 in omega arith),
      (λ firsts seconds rise rise' at at'.
          both_less _ g.P.Ascent.is_at g.P.Ascent.left g.P.Ascent.index laws.at_end laws.at_index firsts seconds c.loop-two.one c.loop-two.two
          c.loop-two.found (g.P.Ascent.indices c.args.out.now) (g.P.Ascent.indices c.loop-two.out)
          (c.loop-two.invariant.1 firsts seconds rise rise' at at') one two c.next-one.result less c.next-one.ensures.at),
      (let a = c.next-one.ensures.fewer in let b = c.order-order.ensures.cost in let h = c.loop-two.invariant.2 in omega arith),
      (λ firsts seconds rise rise' at at' counts.
          let p = c.loop-two.invariant.1 firsts seconds rise rise' at at' in
          let h = c.loop-two.invariant.3 firsts seconds rise rise' at at' counts in
          let b = c.order-order.ensures.count in
          let a = one_fewer _ g.P.Ascent.is_at g.P.Ascent.left g.P.Ascent.index laws.at_end laws.at_index c.loop-two.one c.next-one.result
          p.firsts p.at_first one c.next-one.ensures.at in
          (omega (arith, h.0, counts), omega (arith, h.1, counts))),
    )

pub loop-two-preserved-then-is_gt : goal.loop-two-preserved-then-is_gt
loop-two-preserved-then-is_gt g c =
    let laws = g.met.P.Ascent in
    let one = c.is_over.ensures.is_false c.loop-two-test.true in
    let two = c.is_over-in-loop-two.ensures.is_false c.if-not-is_over.true in
    let greater = told_greater (g.P.Ascent.index c.loop-two.one) (g.P.Ascent.index c.loop-two.two) c.order-order.result c.order-order.ensures.value (sym c.is_gt.ensures ∙ c.if-is_gt.true) in (
      c.loop-two.invariant.0,
      (λ firsts seconds rise rise' at at'.
          both_greater _ g.P.Ascent.is_at g.P.Ascent.left g.P.Ascent.index laws.at_end laws.at_index firsts seconds c.loop-two.one c.loop-two.two
          c.loop-two.found (g.P.Ascent.indices c.args.out.now) (g.P.Ascent.indices c.loop-two.out)
          (c.loop-two.invariant.1 firsts seconds rise rise' at at') one two c.next-two.result greater c.next-two.ensures.at),
      (let a = c.next-two.ensures.fewer in let b = c.order-order.ensures.cost in let h = c.loop-two.invariant.2 in omega arith),
      (λ firsts seconds rise rise' at at' counts.
          let p = c.loop-two.invariant.1 firsts seconds rise rise' at at' in
          let h = c.loop-two.invariant.3 firsts seconds rise rise' at at' counts in
          let b = c.order-order.ensures.count in
          let a = one_fewer _ g.P.Ascent.is_at g.P.Ascent.left g.P.Ascent.index laws.at_end laws.at_index c.loop-two.two c.next-two.result
          p.seconds p.at_second two c.next-two.ensures.at in
          (omega (arith, h.0, counts), omega (arith, h.1, counts))),
    )

pub loop-two-preserved : goal.loop-two-preserved
loop-two-preserved g c =
    let laws = g.met.P.Ascent in
    let one = c.is_over.ensures.is_false c.loop-two-test.true in
    let two = c.is_over-in-loop-two.ensures.is_false c.if-not-is_over.true in
    let same = told_same (g.P.Ascent.index c.loop-two.one) (g.P.Ascent.index c.loop-two.two) c.order-order.result c.order-order.ensures.value (sym c.is_lt.ensures ∙ c.if-is_lt.false) (sym c.is_gt.ensures ∙ c.if-is_gt.false) in
    let a = c.next-one-else-is_gt.ensures.fewer in (
      (let h = c.loop-two.invariant.0 in omega arith),
      (λ firsts seconds rise rise' at at'.
          both_equal _ g.P.Ascent.is_at g.P.Ascent.left g.P.Ascent.index laws.at_end laws.at_index firsts seconds c.loop-two.one c.loop-two.two
          c.loop-two.found (g.P.Ascent.indices c.args.out.now) (g.P.Ascent.indices c.loop-two.out)
          (c.loop-two.invariant.1 firsts seconds rise rise' at at') one two c.next-one-else-is_gt.result c.next-two-else-is_gt.result
          (g.P.Ascent.indices c.put.new.out) same c.next-one-else-is_gt.ensures.at c.next-two-else-is_gt.ensures.at c.put.ensures),
      (let d = c.next-two-else-is_gt.ensures.fewer in let b = c.order-order.ensures.cost in let h = c.loop-two.invariant.2 in omega arith),
      (λ firsts seconds rise rise' at at' counts.
          let p = c.loop-two.invariant.1 firsts seconds rise rise' at at' in
          let h = c.loop-two.invariant.3 firsts seconds rise rise' at at' counts in
          let b = c.order-order.ensures.count in
          let d = one_fewer _ g.P.Ascent.is_at g.P.Ascent.left g.P.Ascent.index laws.at_end laws.at_index c.loop-two.one
          c.next-one-else-is_gt.result p.firsts p.at_first one c.next-one-else-is_gt.ensures.at in
          let e = one_fewer _ g.P.Ascent.is_at g.P.Ascent.left g.P.Ascent.index laws.at_end laws.at_index c.loop-two.two
          c.next-two-else-is_gt.result p.seconds p.at_second two c.next-two-else-is_gt.ensures.at in
          (omega (arith, h.0, counts), omega (arith, h.1, counts))),
    )

pub overflow_add-found : goal.overflow_add-found
overflow_add-found g c =
    let one = c.is_over.ensures.is_false c.loop-two-test.true in
    let h = c.loop-two.invariant.0 in
    let most = c.requires in
    omega arith

pub returns-else-not-is_over-clause-both : goal.returns-else-not-is_over-clause-both
returns-else-not-is_over-clause-both g c = λ firsts seconds rise rise' at at'.
    let laws = g.met.P.Ascent in
    let none : g.P.Ascent.left c.loop-two.two ≤ 0 = omega (arith, c.is_over-in-loop-two.ensures.is_true c.if-not-is_over.false) in
    both_all _ g.P.Ascent.is_at g.P.Ascent.left g.P.Ascent.index laws.at_end laws.at_index firsts seconds c.loop-two.one c.loop-two.two
    c.loop-two.found (g.P.Ascent.indices c.args.out.now) (g.P.Ascent.indices c.loop-two.out)
    (c.loop-two.invariant.1 firsts seconds rise rise' at at') (inr none) rise

pub returns-after-loop-two-clause-both : goal.returns-after-loop-two-clause-both
returns-after-loop-two-clause-both g c = λ firsts seconds rise rise' at at'.
    let laws = g.met.P.Ascent in
    let none : g.P.Ascent.left c.loop-two.one ≤ 0 = omega (arith, c.is_over.ensures.is_true c.loop-two-test.false) in
    both_all _ g.P.Ascent.is_at g.P.Ascent.left g.P.Ascent.index laws.at_end laws.at_index firsts seconds c.loop-two.one c.loop-two.two
    c.loop-two.found (g.P.Ascent.indices c.args.out.now) (g.P.Ascent.indices c.loop-two.out)
    (c.loop-two.invariant.1 firsts seconds rise rise' at at') (inl none) rise

pub returns-else-not-is_over-clause-least : goal.returns-else-not-is_over-clause-least
returns-else-not-is_over-clause-least g c = λ firsts seconds rise rise' at at' counts.
    let laws = g.met.P.Ascent in
    let none : g.P.Ascent.left c.loop-two.two ≤ 0 = omega (arith, c.is_over-in-loop-two.ensures.is_true c.if-not-is_over.false) in
    let h = c.loop-two.invariant.3 firsts seconds rise rise' at at' counts in
    let all = left_is _ g.P.Ascent.is_at g.P.Ascent.left g.P.Ascent.index laws.at_end laws.at_index c.args.second seconds at' in
    inr (omega (arith, h.1))

pub returns-after-loop-two-clause-least : goal.returns-after-loop-two-clause-least
returns-after-loop-two-clause-least g c = λ firsts seconds rise rise' at at' counts.
    let laws = g.met.P.Ascent in
    let none : g.P.Ascent.left c.loop-two.one ≤ 0 = omega (arith, c.is_over.ensures.is_true c.loop-two-test.false) in
    let h = c.loop-two.invariant.3 firsts seconds rise rise' at at' counts in
    let all = left_is _ g.P.Ascent.is_at g.P.Ascent.left g.P.Ascent.index laws.at_end laws.at_index c.args.first firsts at in
    inl (omega (arith, h.0))
