use Rattle.std.proofs.Common.{◌≡◌, ◌∙◌, ◌+◌, ◌-◌, get_or, length, true, false, arith, ap, refl, sym}
use Rattle.std.specs.Ordering.{is_lt}
use Rattle.commonware_views.proofs.Rising.{both_rise, less_from_test, one_more_rises}
use Rattle.commonware_views.proofs.order.are_strict_from.Goals as goal

pub returns-then-not-is_lt-clause-strict : goal.returns-then-not-is_lt-clause-strict
returns-then-not-is_lt-clause-strict g c = (
  (λ t. absurd (cc)),
  (λ strict.
      let keys = g.K.Keys.keys c.args.keys.now in
      let last = g.K.Key.CountedKey.bytes c.loop-i.last in
      let next = g.K.Key.CountedKey.bytes c.key_at-next.result in
      let told = both_rise keys c.loop-i.i last next c.loop-i.invariant.0 (omega (arith, c.loop-i-test.true, c.count-count.ensures)) c.loop-i.invariant.2 c.key_at-next.ensures strict in
      let yes : is_lt c.order.result ≡ true = ap is_lt (c.order.ensures.value ∙ told) in
      let never : false ≡ true = sym c.if-not-is_lt.true ∙ c.is_lt.ensures ∙ yes in
      absurd (cc)),
)

pub loop-i-preserved : goal.loop-i-preserved
loop-i-preserved g c =
    let keys = g.K.Keys.keys c.args.keys.now in
    let i = c.loop-i.i in
    let last = g.K.Key.CountedKey.bytes c.loop-i.last in
    let next = g.K.Key.CountedKey.bytes c.key_at-next.result in
    let less = sym c.order.ensures.value ∙ less_from_test c.order.result (sym c.if-not-is_lt.false ∙ c.is_lt.ensures) in
    let back : i ≡ i + 1 - 1 = omega arith in
    let number : c.count-count.result ≡ length keys = c.count-count.ensures in (
      omega arith,
      omega (arith, c.loop-i-test.true, number),
      (λ d. c.key_at-next.ensures d ∙ ap (λ n. get_or keys n d) back),
      one_more_rises keys i last next c.loop-i.invariant.0 (omega (arith, c.loop-i-test.true, number)) c.loop-i.invariant.2 c.key_at-next.ensures less c.loop-i.invariant.3,
      (let a = c.order.ensures.cost in let h = c.loop-i.invariant.4 in omega arith),
      (λ one. let a = c.order.ensures.count in let h = c.loop-i.invariant.5 one in omega arith),
    )

pub returns-clause-strict : goal.returns-clause-strict
returns-clause-strict g c = (
  (λ _ k d h. c.loop-i.invariant.3 k d (omega (arith, h, c.count-count.ensures, c.loop-i-test.false))),
  (λ _. refl),
)

pub returns-clause-least : goal.returns-clause-least
returns-clause-least g c = λ _ one.
    let h = c.loop-i.invariant.5 one in
    omega (arith, h, c.count-count.ensures, c.loop-i-test.false)
