use Rattle.std.proofs.Common.{◌≡◌, true, false, refl}
use Rattle.std.specs.Ordering.{is_lt, is_gt}
use Rattle.std.specs.declared.cmp.Ordering.{Ordering}
use Rattle.std.specs.declared.cmp.Ordering.TheVariants.{Less, Equal, Greater}
use Rattle.std.proofs.Common.{◌+◌, ◌≤◌, ◌⊎◌, inl, inr, [], ◌∷◌, ◌++◌, ◌∙◌, ap, length, length-append, arith, subst, sym}
use Rattle.committee_certificates.proofs.Merged.{IsMerged, item_of, merged_less, merged_equal, merged_end}
use Rattle.committee_certificates.proofs.intersection.in_both.Goals as goal
use Rattle.committee_certificates.proofs.intersection.in_both.Goals.{then-loop-i-test+else-j-second, else-loop-i-test}

-- what the tests of an order tell
less_from : (o : Ordering) → true ≡ is_lt o → o ≡ Less
less_from Less e = refl
less_from Equal e = cc
less_from Greater e = cc

greater_from : (o : Ordering) → true ≡ is_gt o → o ≡ Greater
greater_from Less e = cc
greater_from Equal e = cc
greater_from Greater e = refl

equal_from : (o : Ordering) → false ≡ is_lt o → false ≡ is_gt o → o ≡ Equal
equal_from Less e f = cc
equal_from Equal e f = refl
equal_from Greater e f = cc

pub loop-i-preserved-then-is_lt : goal.loop-i-preserved-then-is_lt
loop-i-preserved-then-is_lt g c =
    let cost = c.cmp_places-order.ensures.cost in
    let d = item_of c.args.first.now c.loop-i.i c.loop-i-test.true in
    let before = c.loop-i.invariant.3 in
    let i_in = c.loop-i-test.true in (
      merged_less g.T.Order.order g.T.Order.same g.met.T.CountedOrd.total g.met.T.CountedOrd.ties c.args.first.now c.args.second.now c.requires.first_strict c.requires.second_strict
          d c.loop-i-test.true c.if-j-second.true c.loop-i.invariant.0 (sym (c.cmp_places-order.ensures.value d) ∙ less_from _ (sym c.if-is_lt.true ∙ c.is_lt.ensures)),
      omega arith,
      c.loop-i.invariant.2,
      omega arith,
      (λ counts. let h = c.loop-i.invariant.4 counts in let b = c.cmp_places-order.ensures.count in omega (arith, counts)),
      (λ counts. let h = c.loop-i.invariant.5 counts in let b = c.cmp_places-order.ensures.count in omega (arith, counts)),
    )

pub loop-i-preserved : goal.loop-i-preserved
loop-i-preserved g c =
    let cost = c.cmp_places-order.ensures.cost in
    let x = c.index-first-i.result in
    let before = c.loop-i.invariant.3 in
    let i_in = c.loop-i-test.true in
    let j_in = c.if-j-second.true in
    let more = ap length c.in_ok-push.ensures.items ∙ length-append c.loop-i.both.items (x ∷ []) in (
      subst (IsMerged g.T.Order.order g.T.Order.same c.args.first.now c.args.second.now (c.loop-i.i + 1) (c.loop-i.j + 1))
          (ap (λ z. c.loop-i.both.items ++ z ∷ []) (sym c.index-first-i.is) ∙ sym c.in_ok-push.ensures.items)
          (merged_equal g.T.Order.order g.T.Order.same g.met.T.CountedOrd.total g.met.T.CountedOrd.ties c.args.first.now c.args.second.now c.requires.first_strict c.requires.second_strict
          x c.loop-i-test.true c.if-j-second.true c.loop-i.invariant.0 (sym (c.cmp_places-order.ensures.value x) ∙ equal_from _ (sym c.if-is_lt.false ∙ c.is_lt.ensures) (sym c.if-is_gt.false ∙ c.is_gt.ensures))),
      omega arith,
      omega arith,
      omega arith,
      (λ counts. let h = c.loop-i.invariant.4 counts in let b = c.cmp_places-order.ensures.count in omega (arith, counts)),
      (λ counts. let h = c.loop-i.invariant.5 counts in let b = c.cmp_places-order.ensures.count in omega (arith, counts)),
    )

pub returns-clause-shared : goal.returns-clause-shared
returns-clause-shared g c =
    let over : (length c.args.first.now ≤ c.loop-i.i) ⊎ (length c.args.second.now ≤ c.loop-i.j) =
    elim c.loop-i-test.branch [
      | then-loop-i-test+else-j-second w ↦ inr (omega arith)
      | else-loop-i-test w ↦ inl (omega arith)
    ] in
    merged_end g.T.Order.order g.T.Order.same g.met.T.CountedOrd.total g.met.T.CountedOrd.ties c.args.first.now c.args.second.now c.requires.first_strict c.requires.second_strict
    over c.loop-i.invariant.0

pub returns-clause-least : goal.returns-clause-least
returns-clause-least g c = λ counts. elim c.loop-i-test.branch [
  | then-loop-i-test+else-j-second w ↦ let j = c.loop-i.invariant.5 counts in inr (omega arith)
  | else-loop-i-test w ↦ let i = c.loop-i.invariant.4 counts in inl (omega arith)
]
