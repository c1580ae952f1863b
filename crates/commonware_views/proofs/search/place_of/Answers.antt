use Rattle.std.proofs.Common.{◌≡◌, ◌∙◌, ◌+◌, ◌-◌, ◌<◌, ℕ, get_or, length, arith, ap, refl, sym, subst}
use Rattle.std.specs.Prelude.{Some}
use Rattle.std.specs.List.{slice_get}
use Rattle.std.specs.declared.result.Result.{Result}
use Rattle.std.specs.declared.result.Result.TheVariants.{Ok, Err}
use Rattle.std.specs.declared.cmp.Ordering.TheVariants.{Less, Greater}
use Rattle.std.proofs.lemmas.Map.Lookups.{exact_bytes}
use Rattle.std.proofs.lemmas.Option.{slice_get_read, slice_get_within, get_or_from_slice_get}
use Rattle.commonware_sequence.specs.FixedBytes.{bytes_cmp}
use Rattle.commonware_views.proofs.Halving.{left_by_halving, halving_at_first, found_by_halving, cost_of_halving, one_more_counted}
use Rattle.commonware_views.proofs.NoGap.{not_in_gap, same_place}
use Rattle.commonware_views.proofs.search.place_of.Goals as goal

-- the place that a search tells
abbrev told_place : Result ℕ ℕ → ℕ
told_place (Ok n) = n
told_place (Err n) = n

pub loop-low-preserved-in-Less : goal.loop-low-preserved-in-Less
loop-low-preserved-in-Less g c =
    let keys = g.K.Keys.keys c.args.keys.now in
    let key = g.K.Key.CountedKey.bytes c.args.key.now in
    let middle = c.compare_middle-middle.result.0 in
    let up = c.compare_middle-middle.ensures.inside.0 in
    let down = c.compare_middle-middle.ensures.inside.1 in
    let less = c.compare_middle-middle.ensures.cost.2 in
    let back : middle ≡ middle + 1 - 1 = omega arith in (
      omega (arith, down),
      c.loop-low.invariant.1,
      (λ _ d. subst (λ n. bytes_cmp (get_or keys n d) key ≡ Less) back (sym (c.compare_middle-middle.ensures.value d) ∙ c.in-Less.is)),
      c.loop-low.invariant.3,
      (λ k few. left_by_halving (g.C.Counter.counted c.args.counter.now) (g.C.Counter.counted c.loop-low.counter) (g.C.Counter.counted c.compare_middle-middle.new.counter) (c.loop-low.high - c.loop-low.low) (c.loop-low.high - (middle + 1)) k c.compare_middle-middle.ensures.cost.0 (omega (arith, up, down)) less (c.loop-low.invariant.4 k few)),
      (λ one. one_more_counted (length keys) (c.loop-low.high - c.loop-low.low) (c.loop-low.high - (middle + 1)) (g.C.Counter.counted c.args.counter.now) (g.C.Counter.counted c.loop-low.counter) (g.C.Counter.counted c.compare_middle-middle.new.counter) _ c.compare_middle-middle.ensures.count one (c.loop-low.invariant.5 one)),
    )

pub loop-low-preserved : goal.loop-low-preserved
loop-low-preserved g c =
    let keys = g.K.Keys.keys c.args.keys.now in
    let middle = c.compare_middle-middle.result.0 in
    let up = c.compare_middle-middle.ensures.inside.0 in
    let down = c.compare_middle-middle.ensures.inside.1 in (
      up,
      omega (arith, down, c.loop-low.invariant.1),
      c.loop-low.invariant.2,
      (λ _ d. sym (c.compare_middle-middle.ensures.value d) ∙ c.in-Greater.is),
      (λ k few. left_by_halving (g.C.Counter.counted c.args.counter.now) (g.C.Counter.counted c.loop-low.counter) (g.C.Counter.counted c.compare_middle-middle.new.counter) (c.loop-low.high - c.loop-low.low) (middle - c.loop-low.low) k c.compare_middle-middle.ensures.cost.0 (omega (arith, up, down)) c.compare_middle-middle.ensures.cost.1 (c.loop-low.invariant.4 k few)),
      (λ one. one_more_counted (length keys) (c.loop-low.high - c.loop-low.low) (middle - c.loop-low.low) (g.C.Counter.counted c.args.counter.now) (g.C.Counter.counted c.loop-low.counter) (g.C.Counter.counted c.compare_middle-middle.new.counter) _ c.compare_middle-middle.ensures.count one (c.loop-low.invariant.5 one)),
    )

pub returns-in-Equal-clause-found : goal.returns-in-Equal-clause-found
returns-in-Equal-clause-found g c =
    let keys = g.K.Keys.keys c.args.keys.now in
    let key = g.K.Key.CountedKey.bytes c.args.key.now in
    let middle = c.compare_middle-middle.result.0 in
    let within : middle < length keys = omega (arith, c.compare_middle-middle.ensures.inside.1, c.loop-low.invariant.1) in
    let same : get_or keys middle key ≡ key = exact_bytes _ key (sym (c.compare_middle-middle.ensures.value key) ∙ c.in-Equal.is) in
    slice_get_read keys (length keys) middle key refl within (sym same)

pub returns-in-Equal-clause-exactly : goal.returns-in-Equal-clause-exactly
returns-in-Equal-clause-exactly g c = λ strict p.
    let keys = g.K.Keys.keys c.args.keys.now in
    let key = g.K.Key.CountedKey.bytes c.args.key.now in
    let found = returns-in-Equal-clause-found g c in (
      (λ e. subst (λ n. slice_get keys n ≡ Some key) (ap told_place e) found),
      (λ at. ap Ok (same_place key keys strict _ p found at)),
    )

pub returns-clause-absent : goal.returns-clause-absent
returns-clause-absent g c =
    let keys = g.K.Keys.keys c.args.keys.now in
    let key = g.K.Key.CountedKey.bytes c.args.key.now in
    let same : c.loop-low.high ≡ c.loop-low.low = omega (arith, c.loop-low.invariant.0, c.loop-low-test.false) in
    record {
      within = omega (arith, same, c.loop-low.invariant.1);
      above = c.loop-low.invariant.2;
      below = λ less d. subst (λ n. bytes_cmp (get_or keys n d) key ≡ Greater) same (c.loop-low.invariant.3 (omega (arith, same, less)) d);
    }

pub returns-clause-exactly : goal.returns-clause-exactly
returns-clause-exactly g c = λ strict p.
    let keys = g.K.Keys.keys c.args.keys.now in
    let key = g.K.Key.CountedKey.bytes c.args.key.now in (
      (λ never. absurd (cc)),
      (λ at. absurd (not_in_gap key keys c.loop-low.low strict (returns-clause-absent g c) (p, slice_get_within keys p key at, get_or_from_slice_get keys p key key at))),
    )

pub loop-low-init : goal.loop-low-init
loop-low-init g c = (
  omega arith,
  omega (arith, c.count-high.ensures),
  (λ never. absurd (omega (arith, never))),
  (λ less. absurd (omega (arith, less, c.count-high.ensures))),
  (λ k few. halving_at_first (g.C.Counter.counted c.args.counter.now) (c.count-high.result - 0) k (omega (arith, few, c.count-high.ensures))),
  (λ _. (omega arith, λ less. absurd (omega (arith, less, c.count-high.ensures)))),
)

pub returns-in-Equal-clause-cost : goal.returns-in-Equal-clause-cost
returns-in-Equal-clause-cost g c = λ k few.
    found_by_halving (g.C.Counter.counted c.args.counter.now) (g.C.Counter.counted c.loop-low.counter) (g.C.Counter.counted c.compare_middle-middle.new.counter) (c.loop-low.high - c.loop-low.low) k c.compare_middle-middle.ensures.cost.0
    (omega (arith, c.loop-low-test.true)) (c.loop-low.invariant.4 k few)

pub returns-clause-cost : goal.returns-clause-cost
returns-clause-cost g c = λ k few. cost_of_halving (g.C.Counter.counted c.args.counter.now) (g.C.Counter.counted c.loop-low.counter) (c.loop-low.high - c.loop-low.low) k (c.loop-low.invariant.4 k few)

pub returns-in-Equal-clause-least : goal.returns-in-Equal-clause-least
returns-in-Equal-clause-least g c = λ one some.
    let before = (c.loop-low.invariant.5 one).0 in
    omega (arith, before, one, c.compare_middle-middle.ensures.count)

pub returns-clause-least : goal.returns-clause-least
returns-clause-least g c = λ one some. (c.loop-low.invariant.5 one).1 (omega (arith, some, c.loop-low-test.false))
