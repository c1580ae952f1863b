use Rattle.std.proofs.Common.{◌∙◌, ℕ, ◌+◌, ◌-◌, ◌<◌, ◌≤◌, true≢false, get_or, arith, inl, inr, sym, subst, le_of_lt}
use Rattle.std.proofs.lemmas.Bool.{cases_lt}
use Rattle.commonware_views.proofs.Neighbours.{IsLeastSame, least_stays, least_taken, neighbour_found, place_inside, same_rise}
use Rattle.commonware_views.proofs.Same.{HaveSame, item_at_both, repeated_at, repeated_before}
use Rattle.commonware_views.proofs.repeats.repeat_among.Goals.{then-is_same+then-is_earlier, else-is_same, else-is_same-via-then-is_same+else-is_earlier, else-is_same-via-else-is_same}
use Rattle.commonware_views.proofs.repeats.repeat_among.Goals as goal

-- a place that isn't less than the one found, which there then is
not_less : (found p q : ℕ) → ¬ (0 < found → p < q) → (0 < found) × (q ≤ p)
not_less found p q fails = elim (cases_lt 0 found) [
  | inr none ↦ absurd (fails (λ some. absurd (omega (arith, some, none))))
  | inl some ↦ elim (cases_lt p q) [ inl less ↦ absurd (fails (λ _. less)) | inr most ↦ (some, most) ]
]

pub loop-i-preserved : goal.loop-i-preserved
loop-i-preserved c =
    let items = c.args.items.now in
    let places = c.args.places.now in
    let i = c.loop-i.i in
    let was = c.loop-i.invariant in
    elim c.if-is_same.branch [
      | then-is_same+then-is_earlier w ↦
          let less = w.is_earlier.ensures.0 w.if-is_earlier.true in
          subst (λ n. IsLeastSame items places n (i + 1)) (sym w.found-is)
          (least_taken items places c.loop-i.found i was c.loop-i-test.true (c.is_same.ensures.0 w.if-is_same.true) (λ some. le_of_lt (less some)))
      | else-is_same w ↦
          subst (λ n. IsLeastSame items places n (i + 1)) (sym w.found-is)
          (least_stays items places c.loop-i.found i was (λ same. elim w.else-is_same.branch [
            | else-is_same-via-then-is_same+else-is_earlier v ↦
                not_less c.loop-i.found (get_or places i 0) (get_or places c.loop-i.found 0) (λ less. true≢false (sym (v.is_earlier.ensures.1 less) ∙ v.if-is_earlier.false))
            | else-is_same-via-else-is_same v ↦ absurd (true≢false (sym (c.is_same.ensures.1 same) ∙ v.if-is_same.false))
          ]))
    ]

pub returns-then-found-eq0 : goal.returns-then-found-eq0
returns-then-found-eq0 c = λ twice.
    let (i, j, h) = repeated_at c.args.items.now twice in
    let (k, some, inside, at, same) = neighbour_found c.args.items.now c.args.places.now c.requires i j h in
    let found = c.loop-i.invariant.least k some (omega (arith, inside, c.loop-i-test.false)) inside same in
    omega (arith, found.0, c.if-found-eq0.true)

pub returns : goal.returns
returns c =
    let items = c.args.items.now in
    let places = c.args.places.now in
    let found = c.loop-i.found in
    let some : 0 < found = omega (arith, c.if-found-eq0.false) in
    let (inside, same) = c.loop-i.invariant.same some in
    let second = get_or places found 0 in
    let pair : HaveSame items (get_or places (found - 1) 0) second = record {
      earlier = same_rise items places c.requires found some inside same;
      inside = place_inside items places c.requires found inside;
      same = same;
    } in
    record {
      earlier = pair.earlier;
      same = item_at_both items (get_or places (found - 1) 0) second pair;
      distinct_before = λ twice.
          let (i, j, before, h) = repeated_before items second (le_of_lt pair.inside) twice in
          let (k, one, within, at, equal) = neighbour_found items places c.requires i j h in
          let low = c.loop-i.invariant.least k one (omega (arith, within, c.loop-i-test.false)) within equal in
          let never : ⊥ = omega (arith, low.1, at, before) in
          never;
    }
