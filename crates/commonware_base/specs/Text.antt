-- Inputs and encodings, which are lists of bytes, and what an encoding has to satisfy.
use Rattle.std.specs.Prelude.{◌≡◌, ℕ, ◌<◌, ◌^◌, List, ◌++◌, ◌⊎◌, ◌↔◌, Bool, true}
use Rattle.std.specs.List.{AllByRecursion}
use Rattle.commonware_base.specs.Fault.{Fault}

-- a number of eight bits
abbrev pub IsByte : ℕ → Type 0
IsByte b = b < 2 ^ 8

-- each number of the list is a byte
abbrev pub AreBytes : List ℕ → Type 0
AreBytes = AllByRecursion IsByte

-- Acceptance: the input is the encoding of a writable, allowed value, and then the rest.
pub record Accepts {T : Type 0} (enc : T → List ℕ) (Writable Allowed : T → Type 0) (text : List ℕ) (value : T)
    (rest : List ℕ) : Type 0 where
  pub writable : Writable value
  pub allowed : Allowed value
  pub begins : text ≡ enc value ++ rest

-- Some value and rest are accepted, or the input has some fault.
abbrev pub AcceptedOrFaulty : {T : Type 0} → (T → List ℕ) → (T → Type 0) → (T → Type 0) → (Fault → Type 0) → List ℕ
    → Type 0
AcceptedOrFaulty {T} enc Writable Allowed HasFault text =
    ((value : T) × (rest : List ℕ) × Accepts enc Writable Allowed text value rest) ⊎ ((f : Fault) × HasFault f)

-- Prefix-free: where an input begins with the encodings of two writable values, they are the same bytes.
abbrev pub IsPrefixFree : {T : Type 0} → (T → List ℕ) → (T → Type 0) → Type 0
IsPrefixFree {T} enc Writable = (a b : T) (x y : List ℕ) → Writable a → Writable b → enc a ++ x ≡ enc b ++ y
    → enc a ≡ enc b

-- The laws of decoding under one configuration.
pub record ReadLaws {T : Type 0} (enc : T → List ℕ) (Writable Allowed : T → Type 0) (HasFault : List ℕ → Fault → Type 0)
    : Type 0 where
  -- Values of the same bytes are allowed together.
  pub allowed_by_bytes : (a b : T) → Writable a → Writable b → enc a ≡ enc b → Allowed a → Allowed b
  -- An input has at most one fault.
  pub one_fault : (s : List ℕ) (f g : Fault) → HasFault s f → HasFault s g → f ≡ g
  -- An input that is accepted has no fault.
  pub accepted_no_fault : (s : List ℕ) (v : T) (r : List ℕ) (f : Fault) → Accepts enc Writable Allowed s v r
      → HasFault s f → ⊥
  -- Each input is accepted or has a fault.
  pub accepted_or_faulty : (s : List ℕ) → AreBytes s → AcceptedOrFaulty enc Writable Allowed (HasFault s) s

-- Canonical: writable values are equal exactly where their encodings are, and of two equal values both are writable or
-- neither.
pub record CanonicalLaws {T : Type 0} (enc : T → List ℕ) (Writable : T → Type 0) (eq : T → T → Bool) : Type 0 where
  pub equal_by_bytes : (a b : T) → Writable a → Writable b → (eq a b ≡ true) ↔ (enc a ≡ enc b)
  pub writable_together : (a b : T) → eq a b ≡ true → Writable a → Writable b
