-- A key that would be between two neighbours of a strictly increasing list isn't in the list.
use Rattle.std.proofs.Common.{◌≡◌, ◌∙◌, ℕ, ◌-◌, ◌<◌, ◌≤◌, List, length, get_or, sym, ap, subst, subst₂, arith, inl, inr}
use Rattle.std.specs.Prelude.{Some}
use Rattle.std.specs.List.{Contains, slice_get}
use Rattle.std.specs.Ordering.{ordering_reverse}
use Rattle.std.specs.declared.cmp.Ordering.TheVariants.{Less, Greater}
use Rattle.std.proofs.lemmas.Bool.{cases_lt}
use Rattle.std.proofs.lemmas.Cmp.{nat_list_cmp_total}
use Rattle.std.proofs.lemmas.Option.{get_or_from_slice_get, slice_get_within}
use Rattle.std.proofs.lemmas.Map.Keys.{Less-from_sorted}
use Rattle.commonware_ordered.specs.Strict.{IsStrict}
use Rattle.commonware_ordered.specs.laws.StrictLaws.{sorted_from_strict}
use Rattle.commonware_sequence.specs.FixedBytes.{bytes_cmp}
use Rattle.commonware_views.specs.Lists.{IsGapFor}

-- no key is below itself
pub not_below_itself : (x : List ℕ) → bytes_cmp x x ≡ Less → ⊥
not_below_itself x e = let back = nat_list_cmp_total.antisymm x x in cc

-- what is greater comes the other way round
below_from_greater : (x y : List ℕ) → bytes_cmp x y ≡ Greater → bytes_cmp y x ≡ Less
below_from_greater x y e = nat_list_cmp_total.antisymm y x ∙ ap ordering_reverse e

module _ (key : List ℕ) (items : List (List ℕ)) (index : ℕ) (strict : IsStrict bytes_cmp items)
    (gap : IsGapFor key items index) where
  -- of two places of the list the item at the first is less
  rising : (i j : ℕ) → i < j → j < length items → bytes_cmp (get_or items i key) (get_or items j key) ≡ Less
  rising i j = Less-from_sorted bytes_cmp items i j key (sorted_from_strict nat_list_cmp_total items strict)

  -- the key isn't before the gap
  not_before : (k : ℕ) → k < index → get_or items k key ≡ key → ⊥
  not_before k before e =
      let above = gap.above (omega (arith, before)) key in
      elim (cases_lt k (index - 1)) [
        | inl less ↦
            let up = rising k (index - 1) less (omega (arith, before, gap.within)) in
            not_below_itself key (nat_list_cmp_total.trans key (get_or items (index - 1) key) key (subst (λ x. bytes_cmp x (get_or items (index - 1) key) ≡ Less) e up) above)
        | inr most ↦
            let here : k ≡ index - 1 = omega (arith, before, most) in
            not_below_itself key (subst (λ x. bytes_cmp x key ≡ Less) (ap (λ n. get_or items n key) (sym here) ∙ e) above)
      ]

  -- nor after it
  not_after : (k : ℕ) → index ≤ k → k < length items → get_or items k key ≡ key → ⊥
  not_after k after within e =
      let below = below_from_greater (get_or items index key) key (gap.below (omega (arith, after, within)) key) in
      elim (cases_lt index k) [
        | inl less ↦
            let up = rising index k less within in
            not_below_itself key (nat_list_cmp_total.trans key (get_or items index key) key below (subst (λ x. bytes_cmp (get_or items index key) x ≡ Less) e up))
        | inr most ↦
            let here : k ≡ index = omega (arith, after, most) in
            not_below_itself key (subst (λ x. bytes_cmp key x ≡ Less) (ap (λ n. get_or items n key) (sym here) ∙ e) below)
      ]

  pub not_in_gap : Contains items key → ⊥
  not_in_gap (k, within, e) = elim (cases_lt k index) [
    | inl before ↦ not_before k before e
    | inr after ↦ not_after k after within e
  ]

-- a strictly increasing list has a key at one place
pub same_place : (key : List ℕ) (items : List (List ℕ)) → IsStrict bytes_cmp items → (i j : ℕ) → slice_get items i ≡ Some key
    → slice_get items j ≡ Some key → i ≡ j
same_place key items strict i j p q =
    let rise = λ (m n : ℕ) (less : m < n) (at : slice_get items m ≡ Some key) (to : slice_get items n ≡ Some key).
    not_below_itself key (subst₂ (λ x y. bytes_cmp x y ≡ Less) (get_or_from_slice_get items m key key at) (get_or_from_slice_get items n key key to)
    (Less-from_sorted bytes_cmp items m n key (sorted_from_strict nat_list_cmp_total items strict) less (slice_get_within items n key to))) in
    elim (cases_lt i j) [
      | inl less ↦ absurd (rise i j less p q)
      | inr most ↦ elim (cases_lt j i) [
        | inl less ↦ absurd (rise j i less q p)
        | inr least ↦ omega (arith, most, least)
      ]
    ]
