-- The place of an item in a strictly increasing list.
use Rattle.std.proofs.Common.{◌≡◌, ℕ, ◌+◌, ◌<◌, Bool, true, List, length, take, get_or, sym, ◌∙◌, ap, arith, ⊎_elim, inl, inr, subst}
use Rattle.std.specs.Prelude.{◌↔◌, Err, None, Ok, Option, Result, Some}
use Rattle.std.specs.List.Sorted.{IsBinarySearchResult, IsSearchInRange, IsSorted}
use Rattle.std.specs.Cmp.{IsTotalOrder}
use Rattle.std.specs.Ordering.{is_eq, is_lt, ordering_reverse}
use Rattle.std.specs.Result.{result_ok}
use Rattle.std.specs.declared.cmp.Ordering.{Ordering}
use Rattle.std.specs.declared.cmp.Ordering.TheVariants.{Equal, Less}
use Rattle.std.proofs.lemmas.Bool.{cases_lt}
use Rattle.std.proofs.lemmas.Cmp.{alike_right}
use Rattle.std.proofs.lemmas.List.{get_or-take, length-take}
use Rattle.std.proofs.lemmas.List.Sorted.{searchable_from_sorted}
use Rattle.std.proofs.lemmas.Map.Keys.{Less-from_sorted, sorted_from_all_adjacent}
use Rattle.std.proofs.lemmas.Option.{get_or_from_slice_get, slice_get-get_or, slice_get_within}
use Rattle.commonware_ordered.specs.Strict.{HasEqualAt, IsPlaceOf, IsStrict}
use Rattle.commonware_ordered.specs.laws.StrictLaws.{level}

module _ {X : Type 0} {cmp : X → X → Ordering} (o : IsTotalOrder cmp) where
  -- no item of a strictly increasing list is less than the one before it
  ascending_from_strict : (xs : List X) → IsStrict cmp xs → IsSorted cmp xs
  ascending_from_strict xs s k d low high = ap is_lt (o.antisymm (get_or xs (k + 1) d) (get_or xs k d) ∙ ap ordering_reverse (s k d high))

  module _ {eq : X → X → Bool} (ties : (x y : X) → eq x y ≡ is_eq (cmp x y)) where
    -- what halving finds in a strictly increasing list is the place of an equal item
    pub place_from_search : (xs : List X) (x : X) (r : Result ℕ ℕ) → IsStrict cmp xs → IsSearchInRange r (length xs) → IsBinarySearchResult (λ y. cmp y x) xs r → IsPlaceOf eq xs x (result_ok r)
    place_from_search xs x (Ok i) s within found = (within, λ d. ties (get_or xs i d) x ∙ ap is_eq (found d))
    place_from_search xs x (Err i) s within found =
        let p = found (searchable_from_sorted o (λ y. y) xs x (ascending_from_strict xs s)) in
        λ k d high. ties (get_or xs k d) x ∙ ⊎_elim (λ low. ap is_eq (p.0 k d (omega arith) low)) (λ from. ap is_eq (p.1 k d from high)) (cases_lt k i)

    -- of two positions of a strictly increasing list, not both hold an item that equals x
    not_before : (xs : List X) (x : X) (i p : ℕ) → IsStrict cmp xs → i < p → p < length xs → eq (get_or xs i x) x ≡ true → eq (get_or xs p x) x ≡ true → ⊥
    not_before xs x i p s low high e f =
        let less : cmp (get_or xs i x) (get_or xs p x) ≡ Less = Less-from_sorted cmp xs i p x (sorted_from_all_adjacent o xs x (λ k h. s k x h)) low high in
        let a : cmp (get_or xs i x) x ≡ Equal = level cmp eq o ties (get_or xs i x) x e in
        let b : cmp (get_or xs i x) (get_or xs p x) ≡ cmp (get_or xs i x) x = alike_right o (get_or xs p x) x (get_or xs i x) (level cmp eq o ties (get_or xs p x) x f) in
        cc

    -- at most one position of a strictly increasing list holds an item that equals x
    one_place : (xs : List X) (x : X) (i p : ℕ) → IsStrict cmp xs → i < length xs → p < length xs → eq (get_or xs i x) x ≡ true → eq (get_or xs p x) x ≡ true → i ≡ p
    one_place xs x i p s a b e f = elim (cases_lt i p) [
      | inl lt ↦ absurd (not_before xs x i p s lt b e f)
      | inr le ↦ elim (cases_lt p i) [ inl gt ↦ absurd (not_before xs x p i s gt a f e) | inr ge ↦ omega arith ]
    ]

    -- the place of x in a strictly increasing list is each position that holds an equal item, and no other
    pub place_only : (xs : List X) (x : X) (r : Option ℕ) → IsStrict cmp xs → IsPlaceOf eq xs x r → (p : ℕ) → (r ≡ Some p) ↔ HasEqualAt eq xs x p
    place_only xs x (Some i) s h p = (
      (λ e. let same : i ≡ p = cc in subst (HasEqualAt eq xs x) same (get_or xs i x, slice_get-get_or xs i x h.0, h.1 x)),
      (λ w. ap Some (one_place xs x i p s h.0 (slice_get_within xs p w.0 w.1) (h.1 x) (subst (λ z. eq z x ≡ true) (sym (get_or_from_slice_get xs p w.0 x w.1)) w.2))),
    )
    place_only xs x None s h p = (
      (λ e. absurd (cc)),
      (λ w. let n = h p x (slice_get_within xs p w.0 w.1) in let y = subst (λ z. eq z x ≡ true) (sym (get_or_from_slice_get xs p w.0 x w.1)) w.2 in absurd (cc)),
    )

-- the first n of a strictly increasing list are strictly increasing
pub strict_take : {X : Type 0} (cmp : X → X → Ordering) (n : ℕ) (xs : List X) → IsStrict cmp xs → IsStrict cmp (take n xs)
strict_take cmp n xs s k d high =
    let n_is = length-take n xs in
    let below : k + 1 < n = omega (arith, n_is) in
    let within : k + 1 < length xs = omega (arith, n_is) in
    subst (λ y. cmp y (get_or (take n xs) (k + 1) d) ≡ Less) (sym (get_or-take n xs k d (omega arith))) (subst (λ y. cmp (get_or xs k d) y ≡ Less) (sym (get_or-take n xs (k + 1) d below)) (s k d within))
