-- How long the encoding of a list can be.
use Rattle.std.proofs.Common.{ℕ, zero, suc, ◌+◌, ◌*◌, ◌/◌, ◌≤◌, List, [], ◌∷◌, length, arith, inl, inr, length-append}
use Rattle.std.specs.List.{AllByRecursion, flat_map}
use Rattle.std.proofs.lemmas.Bool.{cases_lt, lt-ltb, le-ltb}
use Rattle.std.proofs.lemmas.Nat.{mul-le}
use Rattle.commonware_base.specs.Varint.{varint, groups}
use Rattle.commonware_base.specs.laws.VarintLaws.{groups_not_empty}

-- a greater number has no fewer groups
groups_grow : (k a b : ℕ) → a ≤ b → length (groups k a) ≤ length (groups k b)
groups_grow zero a b h = omega arith
groups_grow (suc k) a b h = elim (cases_lt a 128) [
  | inl p ↦ rw (lt-ltb a 128 p) (groups_not_empty (suc k) b)
  | inr p ↦ rw (le-ltb a 128 p) (rw (le-ltb b 128 (omega arith)) (omega (arith, groups_grow k (a / 128) (b / 128) (omega arith))))
]

-- nor a shorter varint
pub varint_grow : (a b : ℕ) → a ≤ b → length (varint a) ≤ length (varint b)
unfolding varint
varint_grow a b h = groups_grow 4 a b h

-- one more item
step : (l m e f : ℕ) → e ≤ m → f ≤ l * m → e + f ≤ suc l * m
step l m e f p q = omega (arith, p, q)

-- items of at most m bytes each
pub items_length : {T : Type 0} (enc : T → List ℕ) (W : T → Type 0) (m : ℕ) → ((v : T) → W v → length (enc v) ≤ m) → (xs : List T) → AllByRecursion W xs → length (flat_map enc xs) ≤ length xs * m
items_length enc W m each [] p = omega arith
items_length enc W m each (x ∷ xs) p =
    let h = each x p.0 in
    let t = items_length enc W m each xs p.1 in
    let s = step (length xs) m (length (enc x)) (length (flat_map enc xs)) h t in
    omega (arith, s, length-append (enc x) (flat_map enc xs))

-- more items of the same bound
pub mul_grow : (a b m : ℕ) → a ≤ b → a * m ≤ b * m
mul_grow a b m h = mul-le a m b m h (omega arith)
