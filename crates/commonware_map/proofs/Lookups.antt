-- A look-up by the place of a key.
use Rattle.std.proofs.Common.{◌≡◌, ℕ, zero, suc, ◌<◌, Bool, true, false, cond, List, [], ◌∷◌, length, get_or, Some, Option, refl, ap, sym, ◌∙◌, arith}
use Rattle.std.specs.Prelude.{◌↔◌, slice_get}
use Rattle.std.specs.Map.{keys_of, values_of, lookup, set_value}
use Rattle.std.proofs.lemmas.Option.{slice_get-get_or, same_Some}
use Rattle.commonware_map.specs.Borrows.{set_value_at}

-- r is the place of each item that passes, and of no other
abbrev pub IsOnlyPlace : {X : Type 0} → (X → Bool) → List X → Option ℕ → Type 0
IsOnlyPlace {X} test xs r = (p : ℕ) → (r ≡ Some p) ↔ ((x : X) × (slice_get xs p ≡ Some x) × (test x ≡ true))

module _ {K : Type 0} (test : K → Bool) where
  -- where one place alone passes, no earlier item does
  earlier_fails : (ks : List K) (i : ℕ) → i < length ks → IsOnlyPlace test ks (Some i) → (k : ℕ) (d : K) → k < i → test (get_or ks k d) ≡ false
  earlier_fails ks i inside only k d before = go (test (get_or ks k d)) refl
    where
      go : (b : Bool) → test (get_or ks k d) ≡ b → b ≡ false
      go false e = refl
      go true e =
          let same : i ≡ k = same_Some i k ((only k).1 (get_or ks k d, slice_get-get_or ks k d (omega arith), e)) in
          absurd (omega arith)

module _ {K V : Type 0} (test : K → Bool) where
  at_place : (es : List (K × V)) (i : ℕ) (d : K) (v : V) → i < length (keys_of es) → test (get_or (keys_of es) i d) ≡ true
      → ((k : ℕ) → k < i → test (get_or (keys_of es) k d) ≡ false) → v ≡ get_or (values_of es) i v → Some v ≡ lookup test es
  at_place [] i d v inside passes before is = absurd (omega arith)
  at_place (e ∷ es) zero d v inside passes before is = ap Some is ∙ sym (ap (λ b. cond b (Some e.1) (lookup test es)) passes)
  at_place (e ∷ es) (suc i) d v inside passes before is =
      at_place es i d v (omega arith) passes (λ k h. before (suc k) (omega arith)) is
      ∙ sym (ap (λ b. cond b (Some e.1) (lookup test es)) (before zero (omega arith)))

  -- the value at the one place whose key passes is what the look-up finds
  pub lookup_at : (d : K) (es : List (K × V)) (i : ℕ) (v : V) → i < length (keys_of es) → test (get_or (keys_of es) i d) ≡ true → IsOnlyPlace test (keys_of es) (Some i) → v ≡ get_or (values_of es) i v → Some v ≡ lookup test es
  lookup_at d es i v inside passes only is = at_place es i d v inside passes (λ k. earlier_fails test (keys_of es) i inside only k d) is

  set_at_place : (es : List (K × V)) (i : ℕ) (d : K) (w : V) → i < length (keys_of es) → test (get_or (keys_of es) i d) ≡ true
      → ((k : ℕ) → k < i → test (get_or (keys_of es) k d) ≡ false) → set_value_at es i w ≡ set_value test es w
  set_at_place [] i d w inside passes before = refl
  set_at_place (e ∷ es) zero d w inside passes before = sym (ap (λ b. cond b ((e.0, w) ∷ es) (e ∷ set_value test es w)) passes)
  set_at_place (e ∷ es) (suc i) d w inside passes before =
      ap (λ l. e ∷ l) (set_at_place es i d w (omega arith) passes (λ k h. before (suc k) (omega arith)))
      ∙ sym (ap (λ b. cond b ((e.0, w) ∷ es) (e ∷ set_value test es w)) (before zero (omega arith)))

  -- the value at the one place whose key passes is the value that a write to that key changes
  pub set_value_at_place : (d : K) (es : List (K × V)) (i : ℕ) (w : V) → i < length (keys_of es) → test (get_or (keys_of es) i d) ≡ true → IsOnlyPlace test (keys_of es) (Some i) → set_value_at es i w ≡ set_value test es w
  set_value_at_place d es i w inside passes only = set_at_place es i d w inside passes (λ k. earlier_fails test (keys_of es) i inside only k d)
