-- The first item of a list that passes a test, and the items that are kept where equal ones count once.
use Rattle.std.proofs.Common.{◌≡◌, ℕ, zero, suc, ◌<◌, Bool, true, false, cond, List, [], ◌∷◌, get_or, refl, sym, ◌∙◌, ap, subst, arith, ⊎_elim, inl, inr, ◌⊎◌}
use Rattle.std.specs.Prelude.{Some, None}
use Rattle.std.specs.List.{AllWithin, Contains, find, slice_get}
use Rattle.std.specs.Cmp.{IsEquivalence}
use Rattle.std.proofs.lemmas.Option.{same_Some}
use mathlib.Core.Bool.{true≢false}
use Rattle.commonware_ordered.specs.Dedup.{IsKept}

-- a list contains its first item
pub contains_head : {X : Type 0} (x : X) (xs : List X) → Contains (x ∷ xs) x
contains_head x xs = (0, omega arith, refl)

-- an item of a list is its first item or one of the others
pub contains_cases : {X : Type 0} (y : X) (xs : List X) (x : X) → Contains (y ∷ xs) x → (y ≡ x) ⊎ Contains xs x
contains_cases y xs x (zero, h, e) = inl e
contains_cases y xs x (suc k, h, e) = inr (k, omega arith, e)

module _ {X : Type 0} (p : X → Bool) where
  -- what is found passes
  pub found_passes : (xs : List X) (y : X) → find p xs ≡ Some y → p y ≡ true
  found_passes [] y f = cc
  found_passes (x ∷ xs) y f = go (found_passes xs y) (p x) refl f
    where
      go : (find p xs ≡ Some y → p y ≡ true) → (b : Bool) → p x ≡ b → cond b (Some x) (find p xs) ≡ Some y → p y ≡ true
      go rest true e g = subst (λ z. p z ≡ true) (same_Some x y g) e
      go rest false e g = rest g

  -- where an item passes, one is found
  pub found_if_passes : (xs : List X) (y : X) → Contains xs y → p y ≡ true → find p xs ≡ None → ⊥
  found_if_passes [] y h t n = omega arith
  found_if_passes (x ∷ xs) y h t n = go (found_if_passes xs y) (p x) refl n
    where
      go : (Contains xs y → p y ≡ true → find p xs ≡ None → ⊥) → (b : Bool) → p x ≡ b → cond b (Some x) (find p xs) ≡ None → ⊥
      go rest true e m = cc
      go rest false e m = ⊎_elim (λ i. true≢false (sym t ∙ (sym (ap p i) ∙ e))) (λ c. rest c t m) (contains_cases x xs y h)

module _ {X : Type 0} {eq : X → X → Bool} (laws : IsEquivalence eq) where
  -- equal items find the same
  pub find_congr : (q z : X) (xs : List X) → eq q z ≡ true → find (eq q) xs ≡ find (eq z) xs
  find_congr q z [] e = refl
  find_congr q z (y ∷ xs) e = λ i. cond (laws.congr q z y e i) (Some y) (find_congr q z xs e i)

  -- the first of the items that equal x is kept
  pub kept_from_find : (l : List X) (x : X) → find (eq x) l ≡ Some x → IsKept eq l x
  kept_from_find [] x f = cc
  kept_from_find (y ∷ l) x f = go (kept_from_find l x) (eq x y) refl f
    where
      later : eq x y ≡ false → IsKept eq l x → IsKept eq (y ∷ l) x
      later e (i, at, before) = (suc i, at, λ k d low high. within k d high)
        where
          within : (k : ℕ) (d : X) → k < suc i → eq (get_or (y ∷ l) k d) x ≡ false
          within zero d high = laws.symm y x ∙ e
          within (suc k) d high = before k d (omega arith) (omega arith)

      go : (find (eq x) l ≡ Some x → IsKept eq l x) → (b : Bool) → eq x y ≡ b → cond b (Some y) (find (eq x) l) ≡ Some x → IsKept eq (y ∷ l) x
      go rest true e g = (0, g, λ k d low high. absurd (omega arith))
      go rest false e g = later e (rest g)

  -- an item that is kept is the first of the items that equal it
  pub find_from_kept : (l : List X) (x : X) (i : ℕ) → slice_get l i ≡ Some x → AllWithin (λ y. eq y x ≡ false) l 0 i → find (eq x) l ≡ Some x
  find_from_kept [] x i at before = cc
  find_from_kept (y ∷ l) x zero at before = ap (λ b. cond b (Some y) (find (eq x) l)) (subst (λ z. eq x z ≡ true) (sym (same_Some y x at)) (laws.refl x)) ∙ at
  find_from_kept (y ∷ l) x (suc i) at before =
      ap (λ b. cond b (Some y) (find (eq x) l)) (laws.symm x y ∙ before 0 x (omega arith) (omega arith))
      ∙ find_from_kept l x i at (λ k d low high. before (suc k) d (omega arith) (omega arith))
