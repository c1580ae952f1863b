-- A list of keys and one of as many values.
use Rattle.std.proofs.Common.{◌≡◌, ℕ, zero, suc, List, [], ◌∷◌, length, arith, ap, ap₂, refl}
use Rattle.std.specs.Prelude.{Some}
use Rattle.std.specs.List.{slice_get, zip}
use Rattle.std.specs.Map.{keys_of, values_of}
use Rattle.std.proofs.lemmas.Option.{same_Some}

-- there are as many pairs as keys
pub pairs_number : {K V : Type 0} (ks : List K) (vs : List V) → length vs ≡ length ks → length (zip ks vs) ≡ length ks
pairs_number [] [] e = refl
pairs_number [] (v ∷ vs) e = absurd (omega (arith, e))
pairs_number (k ∷ ks) [] e = absurd (omega (arith, e))
pairs_number (k ∷ ks) (v ∷ vs) e = ap suc (pairs_number ks vs (omega (arith, e)))

module _ {K V : Type 0} where
  -- a pair at a place is the key there and the value there
  pub parts_at : (m : List (K × V)) (p : ℕ) (k : K) (v : V) → slice_get m p ≡ Some (k, v)
      → (slice_get (keys_of m) p ≡ Some k) × (slice_get (values_of m) p ≡ Some v)
  parts_at [] p k v at = absurd (cc)
  parts_at (e ∷ m) zero k v at =
      let same = same_Some e (k, v) at in
      (ap (λ z. Some z.0) same, ap (λ z. Some z.1) same)
  parts_at (e ∷ m) (suc p) k v at = parts_at m p k v at

  -- and the other way round
  pub pair_at : (m : List (K × V)) (p : ℕ) (k : K) (v : V) → slice_get (keys_of m) p ≡ Some k
      → slice_get (values_of m) p ≡ Some v → slice_get m p ≡ Some (k, v)
  pair_at [] p k v at to = absurd (cc)
  pair_at (e ∷ m) zero k v at to = ap Some (ap₂ (λ x y. (x, y)) (same_Some e.0 k at) (same_Some e.1 v to))
  pair_at (e ∷ m) (suc p) k v at to = pair_at m p k v at to
