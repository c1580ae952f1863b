-- One item after another is strictly greater than the one before it.
use Rattle.std.proofs.Common.{◌≡◌, ◌∙◌, ℕ, ◌+◌, ◌-◌, ◌<◌, List, [], get_or, length, true, arith, inl, inr, ap, refl, sym, subst₂}
use Rattle.std.proofs.lemmas.Bool.{cases_lt}
use Rattle.std.specs.List.{AllAdjacentBelow}
use Rattle.std.specs.Ordering.{is_lt}
use Rattle.std.specs.declared.cmp.Ordering.{Ordering}
use Rattle.std.specs.declared.cmp.Ordering.TheVariants.{Less, Equal, Greater}
use Rattle.commonware_ordered.specs.Strict.{IsStrict}
use Rattle.commonware_sequence.specs.FixedBytes.{bytes_cmp}

-- only `Less` passes the test
pub less_from_test : (o : Ordering) → true ≡ is_lt o → o ≡ Less
less_from_test Less e = refl
less_from_test Equal e = cc
less_from_test Greater e = cc

module _ (items : List (List ℕ)) (i : ℕ) (last next : List ℕ) (second : 0 < i) (inside : i < length items)
    (before : (d : List ℕ) → last ≡ get_or items (i - 1) d) (here : (d : List ℕ) → next ≡ get_or items i d) where
  -- where all items are, so are these two
  pub both_rise : IsStrict bytes_cmp items → bytes_cmp last next ≡ Less
  both_rise strict =
      let same : i - 1 + 1 ≡ i = omega (arith, second) in
      let one : get_or items (i - 1) [] ≡ last = sym (before []) in
      let two : get_or items (i - 1 + 1) [] ≡ next = ap (λ n. get_or items n []) same ∙ sym (here []) in
      subst₂ (λ x y. bytes_cmp x y ≡ Less) one two (strict (i - 1) [] (omega (arith, same, inside)))

  -- where these two are, so are one more
  pub one_more_rises : bytes_cmp last next ≡ Less → AllAdjacentBelow (λ x y. bytes_cmp x y ≡ Less) items i
      → AllAdjacentBelow (λ x y. bytes_cmp x y ≡ Less) items (i + 1)
  one_more_rises less rising k d h = elim (cases_lt (k + 1) i) [
    | inl below ↦ rising k d below
    | inr end ↦
        let same : k + 1 ≡ i = omega (arith, h, end) in
        let first : k ≡ i - 1 = omega (arith, same) in
        let one : get_or items k d ≡ last = ap (λ n. get_or items n d) first ∙ sym (before d) in
        let two : get_or items (k + 1) d ≡ next = ap (λ n. get_or items n d) same ∙ sym (here d) in
        subst₂ (λ x y. bytes_cmp x y ≡ Less) (sym one) (sym two) less
  ]
