-- Lists of which two positions hold equal items: each list has two or its items are distinct, and lists of equal items
-- share it.
use Rattle.std.specs.Prelude.{◌≡◌, ◌⊎◌, ℕ, zero, suc, ◌||◌, Bool, true, false, List, [], ◌∷◌, Some, length, refl}
use Rattle.std.specs.Prelude.{slice_get}
use Rattle.std.specs.Cmp.{IsEquivalence, IsTotalOrder}
use Rattle.std.specs.Cmp.Lexicographic.{lists_equiv, pointwise}
use Rattle.std.specs.List.{AllByRecursion, IsDistinct, list_any}
use Rattle.std.specs.List.Sorted.{IsPermutation}
use Rattle.std.specs.Ordering.{is_eq}
use Rattle.std.specs.declared.cmp.Ordering.{Ordering}
use Rattle.std.proofs.Common.{inl, inr, ⊎_elim, ap, arith, get_or, subst, sym, ◌∙◌}
use Rattle.std.proofs.lemmas.Bool.{and_parts}
use Rattle.std.proofs.lemmas.List.Folds.{Any-from_list_any}
use Rattle.std.proofs.lemmas.Map.Keys.{IsDistinct-IsPermutation, IsDistinct-cons, IsDistinct-from_sorted}
use Rattle.std.proofs.lemmas.Map.Keys.{apart_from_distinct}
use Rattle.std.proofs.lemmas.Option.{get_or_from_slice_get, same_Some, slice_get_read, slice_get_within}
use mathlib.Core.Bool.{true≢false}
use Rattle.commonware_ordered.specs.Strict.{IsStrict}
use Rattle.commonware_ordered.specs.laws.StrictLaws.{sorted_from_strict}
use Rattle.commonware_ordered.specs.Whole.{HasEqualItems}

-- neither part of a false disjunction is true
neither : (a b : Bool) → (a || b) ≡ false → (a ≡ false) × (b ≡ false)
neither true b e = cc
neither false b e = (refl, e)

-- where no item passes, each item fails
each_fails : {X : Type 0} (p : X → Bool) (xs : List X) → list_any p xs ≡ false → AllByRecursion (λ x. p x ≡ false) xs
each_fails p [] e = tt
each_fails p (x ∷ xs) e = let (here, rest) = neither (p x) (list_any p xs) e in (here, each_fails p xs rest)

module _ {X : Type 0} (eq : X → X → Bool) where
  -- in a list of distinct items no two positions hold equal ones
  pub none_equal_from_distinct : (xs : List X) → IsDistinct eq xs → ¬ HasEqualItems eq xs
  none_equal_from_distinct xs d (i, j, x, y, before, at, later, e) =
      true≢false (sym e ∙ (ap (λ z. eq z y) (sym (get_or_from_slice_get xs i x x at))
      ∙ (ap (λ z. eq (get_or xs i x) z) (sym (get_or_from_slice_get xs j y x later))
      ∙ apart_from_distinct eq xs i j x d before (slice_get_within xs j y later))))

  -- two positions hold equal items, or all are distinct
  pub equal_items_or_distinct : (xs : List X) → HasEqualItems eq xs ⊎ IsDistinct eq xs
  unfolding IsDistinct
  equal_items_or_distinct [] = inr tt
  equal_items_or_distinct (x ∷ xs) = go (equal_items_or_distinct xs) (list_any (eq x) xs) refl
    where
      found : list_any (eq x) xs ≡ true → HasEqualItems eq (x ∷ xs)
      found e =
          let a = Any-from_list_any (eq x) xs e in
          (0, suc a.0, x, a.1, omega arith, refl, slice_get_read xs (length xs) a.0 a.1 refl a.2 (sym a.3), a.4)

      go : HasEqualItems eq xs ⊎ IsDistinct eq xs → (b : Bool) → list_any (eq x) xs ≡ b
          → HasEqualItems eq (x ∷ xs) ⊎ IsDistinct eq (x ∷ xs)
      go rest true e = inl (found e)
      go rest false e =
          ⊎_elim (λ h. inl (suc h.0, suc h.1, h.2, h.3, omega arith, h.5, h.6, h.7))
          (λ d. inr (IsDistinct-cons eq x xs (each_fails (eq x) xs e) d)) rest

  -- two positions hold equal items, or no two do
  pub equal_items_or_none : (xs : List X) → HasEqualItems eq xs ⊎ (¬ HasEqualItems eq xs)
  equal_items_or_none xs = ⊎_elim (λ h. inl h) (λ d. inr (none_equal_from_distinct xs d)) (equal_items_or_distinct xs)

  -- items that change places stay unequal
  pub none_equal_moved : ((x y : X) → eq x y ≡ eq y x) → (xs ys : List X) → IsPermutation xs ys → ¬ HasEqualItems eq xs
      → ¬ HasEqualItems eq ys
  none_equal_moved flips xs ys p none =
      none_equal_from_distinct ys
      (IsDistinct-IsPermutation eq flips xs ys p
      (⊎_elim (λ h. absurd (none h)) (λ d. d) (equal_items_or_distinct xs)))

module _ {X : Type 0} {cmp : X → X → Ordering} (o : IsTotalOrder cmp) {eq : X → X → Bool}
    (ties : (x y : X) → eq x y ≡ is_eq (cmp x y)) where
  -- in a strictly increasing list no two positions hold equal items
  pub none_equal_from_strict : (xs : List X) → IsStrict cmp xs → ¬ HasEqualItems eq xs
  none_equal_from_strict xs s =
      none_equal_from_distinct eq xs
      (subst (λ e. IsDistinct e xs) (λ i x y. sym (ties x y) i)
      (IsDistinct-from_sorted cmp xs (sorted_from_strict o xs s)))

module _ {X : Type 0} (eq : X → X → Bool) (laws : IsEquivalence eq) where
  -- of equal lists each item has an equal one at its place
  equal_at : (xs ys : List X) → pointwise eq xs ys ≡ true → (k : ℕ) (x : X) → slice_get xs k ≡ Some x
      → (y : X) × (slice_get ys k ≡ Some y) × (eq x y ≡ true)
  equal_at [] [] e k x at = absurd (cc)
  equal_at [] (y ∷ ys) e k x at = absurd (cc)
  equal_at (w ∷ xs) [] e k x at = absurd (cc)
  equal_at (w ∷ xs) (y ∷ ys) e zero x at =
      (y, refl, subst (λ v. eq v y ≡ true) (same_Some w x at) (and_parts (eq w y) (pointwise eq xs ys) e).0)
  equal_at (w ∷ xs) (y ∷ ys) e (suc k) x at = equal_at xs ys (and_parts (eq w y) (pointwise eq xs ys) e).1 k x at

  -- equal items of a list are equal in each equal list
  pub equal_items_same : (xs ys : List X) → pointwise eq xs ys ≡ true → HasEqualItems eq xs → HasEqualItems eq ys
  equal_items_same xs ys e (i, j, x, z, before, at, later, same) =
      let p = equal_at xs ys e i x at in
      let q = equal_at xs ys e j z later in (
        i,
        j,
        p.0,
        q.0,
        before,
        p.1,
        q.1,
        sym (laws.congr x p.0 q.0 p.2)
            ∙ (laws.symm x q.0 ∙ (sym (laws.congr z q.0 x q.2) ∙ (laws.symm z x ∙ same))),
      )

  -- and the other way round
  pub equal_items_back : (xs ys : List X) → pointwise eq xs ys ≡ true → HasEqualItems eq ys → HasEqualItems eq xs
  equal_items_back xs ys e = equal_items_same ys xs ((lists_equiv laws).symm ys xs ∙ e)
