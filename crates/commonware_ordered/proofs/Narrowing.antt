-- The place in a strictly increasing list of the item that equals the one sought.
use Rattle.std.proofs.Common.{◌≡◌, ℕ, ◌+◌, ◌-◌, ◌*◌, ◌<◌, ◌≤◌, Bool, true, false, List, length, get_or, refl, sym, ◌∙◌, ap, subst, arith, ⊎_elim}
use mathlib.Core.Bool.{true≢false}
use Rattle.std.specs.List.{HoldsAt}
use Rattle.std.proofs.lemmas.List.{get_or_default}
use Rattle.std.proofs.lemmas.Nat.{mul-le}
use Rattle.std.specs.Cmp.{IsTotalOrder}
use Rattle.std.specs.Ordering.{is_eq, is_ge, is_gt, ordering_reverse}
use Rattle.std.specs.declared.cmp.Ordering.{Ordering}
use Rattle.std.specs.declared.cmp.Ordering.TheVariants.{Less, Equal, Greater}
use Rattle.std.proofs.lemmas.Bool.{cases_lt}
use Rattle.std.proofs.lemmas.Map.Keys.{Less-from_sorted}
use Rattle.commonware_ordered.specs.Strict.{IsStrict}
use Rattle.commonware_ordered.specs.laws.StrictLaws.{level, sorted_from_strict}

-- the two orders of a comparison
ge_from : (c : Ordering) → false ≡ is_gt (ordering_reverse c) → true ≡ is_ge c
ge_from Less e = cc
ge_from Equal e = refl
ge_from Greater e = refl

less_from : (c : Ordering) → true ≡ is_gt (ordering_reverse c) → false ≡ is_ge c
less_from Less e = refl
less_from Equal e = cc
less_from Greater e = cc

module _ {X : Type 0} {cmp : X → X → Ordering} (o : IsTotalOrder cmp) {eq : X → X → Bool} (ties : (x y : X) → eq x y ≡ is_eq (cmp x y)) where
  -- how x compares with the item at place i, where the item at place k equals x
  pub at_least_from_place : (xs : List X) (x : X) (i k : ℕ) (d : X) → IsStrict cmp xs → i < length xs → k < length xs → HoldsAt (λ y. eq y x ≡ true) xs k
      → (i ≤ k → is_ge (cmp x (get_or xs i d)) ≡ true) × (k < i → is_ge (cmp x (get_or xs i d)) ≡ false)
  at_least_from_place xs x i k d s here there h =
      let e = level cmp eq o ties (get_or xs k d) x (h d) in
      let turned = o.congr (get_or xs k d) x (get_or xs i d) e in (
        λ low. ⊎_elim
            (λ before. ap is_ge (sym turned ∙ (o.antisymm (get_or xs k d) (get_or xs i d) ∙ ap ordering_reverse (Less-from_sorted cmp xs i k d (sorted_from_strict o xs s) before there))))
            (λ after. let same : k ≡ i = omega arith in subst (λ j. is_ge (cmp x (get_or xs j d)) ≡ true) same (ap is_ge (o.antisymm x (get_or xs k d) ∙ ap ordering_reverse e)))
            (cases_lt i k),
        λ high. ap is_ge (sym turned ∙ Less-from_sorted cmp xs k i d (sorted_from_strict o xs s) high here),
      )

  -- where x is at least the item at place i, the place of an item that equals x isn't before i
  pub place_from : (xs : List X) (x : X) (i k : ℕ) (d : X) → IsStrict cmp xs → i < length xs → k < length xs → HoldsAt (λ y. eq y x ≡ true) xs k
      → true ≡ is_ge (cmp x (get_or xs i d)) → i ≤ k
  place_from xs x i k d s here there h e = ⊎_elim
      (λ high. absurd (true≢false (e ∙ (at_least_from_place xs x i k d s here there h).1 high)))
      (λ low. low)
      (cases_lt k i)

  -- where x is less than the item at place i, the place of an item that equals x is before i
  pub place_before : (xs : List X) (x : X) (i k : ℕ) (d : X) → IsStrict cmp xs → i < length xs → k < length xs → HoldsAt (λ y. eq y x ≡ true) xs k
      → false ≡ is_ge (cmp x (get_or xs i d)) → k < i
  place_before xs x i k d s here there h e = ⊎_elim
      (λ high. high)
      (λ low. absurd (true≢false (sym (e ∙ (at_least_from_place xs x i k d s here there h).0 low))))
      (cases_lt k i)

  -- the same of a comparison of the item at place i with x
  pub place_from_item : (xs : List X) (x : X) (i k : ℕ) (d : X) → IsStrict cmp xs → i < length xs → k < length xs → HoldsAt (λ y. eq y x ≡ true) xs k
      → false ≡ is_gt (cmp (get_or xs i d) x) → i ≤ k
  place_from_item xs x i k d s here there h e =
      place_from xs x i k d s here there h (ge_from (cmp x (get_or xs i d)) (e ∙ ap is_gt (o.antisymm (get_or xs i d) x)))

  pub place_before_item : (xs : List X) (x : X) (i k : ℕ) (d : X) → IsStrict cmp xs → i < length xs → k < length xs → HoldsAt (λ y. eq y x ≡ true) xs k
      → true ≡ is_gt (cmp (get_or xs i d) x) → k < i
  place_before_item xs x i k d s here there h e =
      place_before xs x i k d s here there h (less_from (cmp x (get_or xs i d)) (e ∙ ap is_gt (o.antisymm (get_or xs i d) x)))

-- a step of the search: place k stays between its bounds
pub quartered_within : (base size q k a b c : ℕ) → 4 * q ≤ size
    → (base + q ≤ k → a ≡ 1) × (k < base + q → a ≡ 0)
    → (base + 2 * q ≤ k → b ≡ 1) × (k < base + 2 * q → b ≡ 0)
    → (base + 3 * q ≤ k → c ≡ 1) × (k < base + 3 * q → c ≡ 0)
    → base ≤ k → k < base + size
    → (base + q * (a + b + c) ≤ k) × (k < base + q * (a + b + c) + (size - 3 * q))
quartered_within base size q k a b c room one two three low high = ⊎_elim none (λ h. ⊎_elim (some1 h) (λ h2. ⊎_elim (some2 h2) all (cases_lt k (base + 3 * q))) (cases_lt k (base + 2 * q))) (cases_lt k (base + q))
  where
    Goal : ℕ → Type 0
    Goal n = (base + q * n ≤ k) × (k < base + q * n + (size - 3 * q))

    none : k < base + q → Goal (a + b + c)
    none h =
        let e : 0 ≡ a + b + c = let x = one.1 h in let y = two.1 (omega arith) in let z = three.1 (omega arith) in omega arith in
        subst Goal e (omega arith, omega arith)

    some1 : base + q ≤ k → k < base + 2 * q → Goal (a + b + c)
    some1 g h =
        let e : 1 ≡ a + b + c = let x = one.0 g in let y = two.1 h in let z = three.1 (omega arith) in omega arith in
        subst Goal e (omega arith, omega arith)

    some2 : base + 2 * q ≤ k → k < base + 3 * q → Goal (a + b + c)
    some2 g h =
        let e : 2 ≡ a + b + c = let x = one.0 (omega arith) in let y = two.0 g in let z = three.1 h in omega arith in
        subst Goal e (omega arith, omega arith)

    all : base + 3 * q ≤ k → Goal (a + b + c)
    all g =
        let e : 3 ≡ a + b + c = let x = one.0 (omega arith) in let y = two.0 (omega arith) in let z = three.0 g in omega arith in
        subst Goal e (omega arith, omega arith)

-- a halving: place k stays between its bounds
pub halved_within : (base size window k r : ℕ) → window < size → size ≤ 2 * window
    → (base + (size - window) ≤ k → r ≡ 1) × (k < base + (size - window) → r ≡ 0)
    → base ≤ k → k < base + size
    → (base + (size - window) * r ≤ k) × (k < base + (size - window) * r + window)
halved_within base size window k r more room one low high = ⊎_elim before after (cases_lt k (base + (size - window)))
  where
    Goal : ℕ → Type 0
    Goal n = (base + (size - window) * n ≤ k) × (k < base + (size - window) * n + window)

    before : k < base + (size - window) → Goal r
    before h = subst Goal (sym (one.1 h)) (omega arith, omega arith)

    after : base + (size - window) ≤ k → Goal r
    after h = subst Goal (sym (one.0 h)) (omega arith, omega arith)

-- what is left of places that are quartered is inside the list
pub quartered_inside : (base size q all a b c : ℕ) → 4 * q ≤ size → base + size ≤ all → a ≤ 1 → b ≤ 1 → c ≤ 1
    → base + q * (a + b + c) + (size - 3 * q) ≤ all
quartered_inside base size q all a b c room within x y z =
    let most = mul-le q (a + b + c) q 3 (omega arith) (omega arith) in omega arith

-- where the only place that can hold an equal item holds none, none does
pub none_from_only : {X : Type 0} (eq : X → X → Bool) (xs : List X) (x : X) (place : ℕ)
    → ((k : ℕ) → k < length xs → HoldsAt (λ y. eq y x ≡ true) xs k → place ≡ k)
    → (place < length xs → (d : X) → eq (get_or xs place d) x ≡ false)
    → (k : ℕ) (d : X) → k < length xs → eq (get_or xs k d) x ≡ false
none_from_only {X} eq xs x place only other k d there = go (eq (get_or xs k d) x) refl
  where
    any : eq (get_or xs k d) x ≡ true → HoldsAt (λ y. eq y x ≡ true) xs k
    any e f = ap (λ y. eq y x) (get_or_default xs k f d there) ∙ e

    go : (b : Bool) → eq (get_or xs k d) x ≡ b → b ≡ false
    go false e = refl
    go true e =
        let same = only k there (any e) in
        sym e ∙ subst (λ i. eq (get_or xs i d) x ≡ false) same (other (omega arith) d)
