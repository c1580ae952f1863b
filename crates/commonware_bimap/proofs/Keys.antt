-- A look-up from values to keys: in a list of which no two keys and no two values are equal, one look-up turns the other round.
use Rattle.std.proofs.Common.{◌≡◌, ℕ, zero, suc, ◌<◌, Bool, true, false, cond, List, [], ◌∷◌, length, get_or, Some, Option, refl, ap, sym, subst, ◌∙◌, arith}
use Rattle.std.specs.Prelude.{◌↔◌, IsSomeAnd, slice_get}
use Rattle.std.specs.Cmp.{IsEquivalence, IsTotalOrder}
use Rattle.std.specs.Map.{keys_of, values_of, lookup}
use Rattle.std.specs.Ordering.{is_eq}
use Rattle.std.specs.declared.cmp.Ordering.{Ordering}
use Rattle.std.proofs.lemmas.Map.Entries.{length-keys_of, length-values_of}
use Rattle.std.proofs.lemmas.Option.{same_Some, slice_get-get_or}
use Rattle.commonware_ordered.specs.Strict.{IsPlaceOf, IsStrict}
use Rattle.commonware_ordered.specs.laws.EqualItemLaws.{none_equal_from_strict}
use Rattle.commonware_ordered.specs.Whole.{HasEqualItems}
use Rattle.commonware_bimap.specs.Swapped.{swapped}

-- values are where keys were
pub keys_of-swapped : {K V : Type 0} (es : List (K × V)) → keys_of (swapped es) ≡ values_of es
keys_of-swapped [] = refl
keys_of-swapped (e ∷ es) = ap (λ l. e.1 ∷ l) (keys_of-swapped es)

-- and keys where values were
pub values_of-swapped : {K V : Type 0} (es : List (K × V)) → values_of (swapped es) ≡ keys_of es
values_of-swapped [] = refl
values_of-swapped (e ∷ es) = ap (λ l. e.0 ∷ l) (values_of-swapped es)

-- twice the other way round is as it was
swapped-swapped : {K V : Type 0} (es : List (K × V)) → swapped (swapped es) ≡ es
swapped-swapped [] = refl
swapped-swapped (e ∷ es) = ap (λ l. e ∷ l) (swapped-swapped es)

-- a pair of es passes both
abbrev HasPair : {X Y : Type 0} → (X → Type 0) → (Y → Type 0) → List X → List Y → Type 0
HasPair {X} {Y} P Q xs ys = (i : ℕ) × (x : X) × (y : Y) × (slice_get xs i ≡ Some x) × (slice_get ys i ≡ Some y) × P x × Q y

-- what a look-up finds is a pair: the first, or a later one
has_first : {X Y : Type 0} (test : X → Bool) (Q : Y → Type 0) (e : X × Y) (es : List (X × Y)) (b : Bool) → test e.0 ≡ b → IsSomeAnd (cond b (Some e.1) (lookup test es)) Q
    → (IsSomeAnd (lookup test es) Q → HasPair (λ x. test x ≡ true) Q (keys_of es) (values_of es)) → HasPair (λ x. test x ≡ true) Q (keys_of (e ∷ es)) (values_of (e ∷ es))
has_first test Q e es true passes h later = (0, e.0, e.1, refl, refl, passes, h)
has_first test Q e es false fails h later = let r = later h in (suc r.0, r.1, r.2, r.3, r.4, r.5, r.6)

-- what a look-up finds is a pair
lookup_has : {X Y : Type 0} (test : X → Bool) (Q : Y → Type 0) (es : List (X × Y)) → IsSomeAnd (lookup test es) Q → HasPair (λ x. test x ≡ true) Q (keys_of es) (values_of es)
lookup_has test Q [] h = absurd h
lookup_has test Q (e ∷ es) h = has_first test Q e es (test e.0) refl h (lookup_has test Q es)

module _ {X Y : Type 0} (eq : X → X → Bool) (laws : IsEquivalence eq) where
  -- no key before one that equals the given one does
  later_only : (e : X × Y) (es : List (X × Y)) → ¬ HasEqualItems eq (keys_of (e ∷ es)) → (key : X) (i : ℕ) (x : X) → slice_get (keys_of es) i ≡ Some x → eq x key ≡ true → (b : Bool) → eq e.0 key ≡ b → b ≡ false
  later_only e es none key i x at same false other = refl
  later_only e es none key i x at same true first = absurd (none (0, suc i, e.0, x, omega arith, refl, at, laws.congr e.0 key x first ∙ laws.symm key x ∙ same))

  -- where no two keys are equal, the value beside a key that equals the given one is what the look-up finds
  pub lookup_is : (es : List (X × Y)) → ¬ HasEqualItems eq (keys_of es) → (key : X) (i : ℕ) (x : X) (y : Y) → slice_get (keys_of es) i ≡ Some x → slice_get (values_of es) i ≡ Some y → eq x key ≡ true → Some y ≡ lookup (λ z. eq z key) es
  lookup_is [] none key i x y at beside same = cc
  lookup_is (e ∷ es) none key zero x y at beside same =
      sym (ap (λ b. cond b (Some e.1) (lookup (λ z. eq z key) es)) (subst (λ z. eq z key ≡ true) (sym (same_Some e.0 x at)) same) ∙ beside)
  lookup_is (e ∷ es) none key (suc i) x y at beside same =
      lookup_is es (λ h. none (suc h.0, suc h.1, h.2, h.3, omega (arith, h.4), h.5, h.6, h.7)) key i x y at beside same
      ∙ sym (ap (λ b. cond b (Some e.1) (lookup (λ z. eq z key) es)) (later_only e es none key i x at same (eq e.0 key) refl))

  -- what is found the other way round is found
  turned : (test : Y → Bool) (es : List (X × Y)) → ¬ HasEqualItems eq (keys_of es) → (key : X) → IsSomeAnd (lookup test (swapped es)) (λ x. eq x key ≡ true) → IsSomeAnd (lookup (λ z. eq z key) es) (λ y. test y ≡ true)
  turned test es none key h =
      let (i, y, x, at, beside, passes, same) = lookup_has test (λ x. eq x key ≡ true) (swapped es) h in
      subst (λ o. IsSomeAnd o (λ z. test z ≡ true))
      (lookup_is es none key i x y (subst (λ l. slice_get l i ≡ Some x) (values_of-swapped es) beside) (subst (λ l. slice_get l i ≡ Some y) (keys_of-swapped es) at) same) passes

-- the key at the place of a value is what the look-up from values finds
pub key_at : {K V : Type 0} (value_eq : V → V → Bool) → IsEquivalence value_eq → (es : List (K × V)) → ¬ HasEqualItems value_eq (values_of es) → (value : V) (i : ℕ) (k : K) → IsPlaceOf value_eq (values_of es) value (Some i) → k ≡ get_or (keys_of es) i k
    → Some k ≡ lookup (λ v. value_eq v value) (swapped es)
key_at value_eq laws es none value i k place is =
    let v = get_or (values_of es) i value in
    let inside : i < length (keys_of es) = omega (arith, place.0, length-keys_of es, length-values_of es) in
    lookup_is value_eq laws (swapped es) (subst (λ l. ¬ HasEqualItems value_eq l) (sym (keys_of-swapped es)) none) value i v k
    (subst (λ l. slice_get l i ≡ Some v) (sym (keys_of-swapped es)) (slice_get-get_or (values_of es) i value place.0))
    (subst (λ l. slice_get l i ≡ Some k) (sym (values_of-swapped es)) (slice_get-get_or (keys_of es) i k inside ∙ ap Some (sym is))) (place.1 value)

-- where the keys are strictly increasing and no two values are equal, the key of a value equals a key exactly where the value of that key equals the value
pub found_both_ways : {K V : Type 0} {cmp : K → K → Ordering} {key_eq : K → K → Bool} → IsTotalOrder cmp → ((x y : K) → key_eq x y ≡ is_eq (cmp x y)) → IsEquivalence key_eq → (value_eq : V → V → Bool) → IsEquivalence value_eq
    → (es : List (K × V)) → IsStrict cmp (keys_of es) → ¬ HasEqualItems value_eq (values_of es) → (value : V) (found : Option K) → found ≡ lookup (λ v. value_eq v value) (swapped es) → (key : K)
    → IsSomeAnd found (λ q. key_eq q key ≡ true) ↔ IsSomeAnd (lookup (λ q. key_eq q key) es) (λ v. value_eq v value ≡ true)
found_both_ways {K} {V} {cmp} {key_eq} total ties key_laws value_eq value_laws es strict no_values value found is key =
    let no_keys = none_equal_from_strict total ties (keys_of es) strict in
    subst (λ o. IsSomeAnd o (λ q. key_eq q key ≡ true) ↔ IsSomeAnd (lookup (λ q. key_eq q key) es) (λ v. value_eq v value ≡ true)) (sym is) (
      turned key_eq key_laws (λ v. value_eq v value) es no_keys key,
      λ h. turned value_eq value_laws (λ q. key_eq q key) (swapped es) (subst (λ l. ¬ HasEqualItems value_eq l) (sym (keys_of-swapped es)) no_values) value
          (subst (λ l. IsSomeAnd (lookup (λ q. key_eq q key) l) (λ v. value_eq v value ≡ true)) (sym (swapped-swapped es)) h),
    )
