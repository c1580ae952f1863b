-- Whether a list is strictly increasing can be decided, lists of equal items share it, and in such a list each item is
-- less than all that follow it.
use Rattle.std.specs.Prelude.{◌≡◌, zero, suc, ◌+◌, ◌⊎◌, Bool, true, List, [], ◌∷◌, refl}
use Rattle.std.specs.Cmp.{IsTotalOrder, Equal-is}
use Rattle.std.specs.Cmp.Lexicographic.{pointwise}
use Rattle.std.specs.List.Sorted.{IsStrictlySortedBy}
use Rattle.std.specs.Ordering.{is_eq}
use Rattle.std.specs.declared.cmp.Ordering.{Ordering}
use Rattle.std.specs.declared.cmp.Ordering.TheVariants.{Less, Equal, Greater}
use Rattle.std.proofs.Common.{inl, inr, sym, subst, ◌∙◌, arith, get_or}
use Rattle.std.proofs.lemmas.Bool.{and_parts}
use Rattle.std.proofs.lemmas.Cmp.{alike_right}
use Rattle.std.proofs.lemmas.Map.Keys.{sorted_from_all_adjacent}
use Rattle.commonware_ordered.specs.Strict.{IsStrict}

module _ {T : Type 0} (cmp : T → T → Ordering) where
  -- one more item before a strictly increasing list, less than its first
  strict_cons : (x y : T) (l : List T) → cmp x y ≡ Less → IsStrict cmp (y ∷ l) → IsStrict cmp (x ∷ y ∷ l)
  strict_cons x y l less s zero d high = less
  strict_cons x y l less s (suc k) d high =
      let e : suc (k + 1) ≡ suc k + 1 = omega arith in
      subst (λ n. cmp (get_or (y ∷ l) k d) (get_or (x ∷ y ∷ l) n d) ≡ Less) e (s k d (omega arith))

  -- a strictly increasing list without its first item is strictly increasing
  strict_tail : (x : T) (l : List T) → IsStrict cmp (x ∷ l) → IsStrict cmp l
  strict_tail x l s k d high =
      let e : suc k + 1 ≡ suc (k + 1) = omega arith in
      subst (λ n. cmp (get_or l k d) (get_or (x ∷ l) n d) ≡ Less) e (s (suc k) d (omega arith))

  -- every comparison gives `Less` or not
  less_or_not : (o : Ordering) → (o ≡ Less) ⊎ (¬ (o ≡ Less))
  less_or_not Less = inl refl
  less_or_not Equal = inr (λ e. cc)
  less_or_not Greater = inr (λ e. cc)

  -- every list is strictly increasing or not
  pub strict_or_not : (l : List T) → IsStrict cmp l ⊎ (¬ IsStrict cmp l)
  strict_or_not [] = inl (λ k d high. absurd (omega arith))
  strict_or_not (x ∷ []) = inl (λ k d high. absurd (omega arith))
  strict_or_not (x ∷ y ∷ l) = elim (less_or_not (cmp x y)) [
    | inr n ↦ inr (λ s. n (s 0 x (omega arith)))
    | inl less ↦ elim (strict_or_not (y ∷ l))
        [ inl s ↦ inl (strict_cons x y l less s) | inr n ↦ inr (λ s. n (strict_tail x (y ∷ l) s)) ]
  ]

  module _ (eq : T → T → Bool) (total : IsTotalOrder cmp) (matches_eq : (x y : T) → eq x y ≡ is_eq (cmp x y)) where
    -- equal items compare `Equal`
    pub level : (x y : T) → eq x y ≡ true → cmp x y ≡ Equal
    level x y e = (Equal-is (cmp x y)).0 (sym (matches_eq x y) ∙ e)

    -- a list whose items equal those of a strictly increasing list, each at its place, is strictly increasing
    pub strict_same : (xs ys : List T) → pointwise eq xs ys ≡ true → IsStrict cmp xs → IsStrict cmp ys
    strict_same [] [] e s = s
    strict_same [] (y ∷ ys) e s = absurd (cc)
    strict_same (x ∷ xs) [] e s = absurd (cc)
    strict_same (x ∷ xs) (y ∷ []) e s = λ k d high. absurd (omega arith)
    strict_same (x ∷ []) (y ∷ w ∷ ys) e s = absurd (cc (and_parts (eq x y) (pointwise eq [] (w ∷ ys)) e).1)
    strict_same (x ∷ z ∷ xs) (y ∷ w ∷ ys) e s =
        let p = and_parts (eq x y) (pointwise eq (z ∷ xs) (w ∷ ys)) e in
        let q = and_parts (eq z w) (pointwise eq xs ys) p.1 in
        let a = level x y p.0 in
        let b = level z w q.0 in
        strict_cons y w ys (sym (alike_right total z w y b) ∙ sym (total.congr x y z a) ∙ s 0 x (omega arith))
        (strict_same (z ∷ xs) (w ∷ ys) p.1 (strict_tail x (z ∷ xs) s))

-- each item of a strictly increasing list is less than all that follow it
pub sorted_from_strict : {T : Type 0} {cmp : T → T → Ordering} → IsTotalOrder cmp → (xs : List T) → IsStrict cmp xs
    → IsStrictlySortedBy cmp xs
unfolding IsStrictlySortedBy
sorted_from_strict total [] s = tt
sorted_from_strict total (x ∷ xs) s = sorted_from_all_adjacent total (x ∷ xs) x (λ k h. s k x h)
