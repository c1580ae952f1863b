-- A strictly increasing list whose items are all among those of another isn't longer than that one.
use Rattle.std.proofs.Common.{◌≡◌, ◌∙◌, ℕ, zero, suc, ◌+◌, ◌<◌, ◌≤◌, List, [], ◌∷◌, length, get_or, refl, ap, sym, subst, arith}
use Rattle.std.specs.List.{Contains}
use Rattle.std.specs.declared.cmp.Ordering.{Ordering}
use Rattle.std.specs.declared.cmp.Ordering.TheVariants.{Less}
use Rattle.std.proofs.lemmas.List.{get_or_default}

-- the list without the item at a place
removed : {X : Type 0} → ℕ → List X → List X
removed n [] = []
removed zero (x ∷ xs) = xs
removed (suc n) (x ∷ xs) = x ∷ removed n xs

-- it has one item less
removed_length : {X : Type 0} (k : ℕ) (xs : List X) → k < length xs → length xs ≡ length (removed k xs) + 1
unfolding removed
removed_length k [] h = absurd (omega (arith, h))
removed_length zero (x ∷ xs) h = omega arith
removed_length (suc k) (x ∷ xs) h = let n = removed_length k xs (omega (arith, h)) in omega (arith, n)

-- and the items at all other places
removed_keeps : {X : Type 0} (k j : ℕ) (xs : List X) (y : X) → j < length xs → get_or xs j y ≡ y → ¬ (j ≡ k)
    → Contains (removed k xs) y
unfolding removed
removed_keeps k j [] y h e other = absurd (omega (arith, h))
removed_keeps zero zero (x ∷ xs) y h e other = absurd (other refl)
removed_keeps zero (suc j) (x ∷ xs) y h e other = (j, omega (arith, h), e)
removed_keeps (suc k) zero (x ∷ xs) y h e other = (0, omega arith, e)
removed_keeps (suc k) (suc j) (x ∷ xs) y h e other =
    let kept = removed_keeps k j xs y (omega (arith, h)) e (λ same. other (ap (λ n. suc n) same)) in
    (suc kept.0, omega (arith, kept.1), kept.2)

module _ {X : Type 0} (cmp : X → X → Ordering) (irreflexive : (x : X) → cmp x x ≡ Less → ⊥) where
  pub not_longer : (xs ys : List X) → ((i j : ℕ) (d : X) → i < j → j < length xs → cmp (get_or xs i d) (get_or xs j d) ≡ Less)
      → ((x : X) → Contains xs x → Contains ys x) → length xs ≤ length ys
  not_longer [] ys rising among = omega arith
  not_longer (x ∷ xs) ys rising among =
      let (k, within, here) = among x (0, omega arith, refl) in
      let apart : (y : X) (has : Contains xs y) (j : ℕ) → get_or ys j y ≡ y → ¬ (j ≡ k) = λ y has j there same.
      let less : cmp x y ≡ Less = subst (λ z. cmp x z ≡ Less) has.2 (rising 0 (suc has.0) y (omega arith) (omega (arith, has.1))) in
      let one : y ≡ x = sym there ∙ ap (λ n. get_or ys n y) same ∙ get_or_default ys k y x within ∙ here in
      irreflexive x (subst (λ z. cmp x z ≡ Less) one less) in
      let shorter = not_longer xs (removed k ys)
      (λ i j d low high. rising (suc i) (suc j) d (omega (arith, low)) (omega (arith, high)))
      (λ y has. let (j, inside, there) = among y (suc has.0, omega (arith, has.1), has.2) in
      removed_keeps k j ys y inside there (apart y has j there)) in
      omega (arith, shorter, removed_length k ys within)
