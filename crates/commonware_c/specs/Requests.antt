-- What a caller in C requests to be written, and what is wrong with it.
use Rattle.std.specs.Prelude.{◌≡◌, ℕ, ◌-◌, ◌^◌, ◌<◌, ◌≤◌, List, length, slice_index_or}
use Rattle.std.specs.List.{AllAdjacentBelow}
use Rattle.commonware_base.specs.Unions.{union_text}

-- the index at the place is the first that isn't greater than the one before it
pub record IsFirstDescent (signers : List ℕ) (place : ℕ) : Type 0 where
  pub second : 0 < place
  pub inside : place < length signers
  pub rising : AllAdjacentBelow (λ x y. x < y) signers place
  pub descends : (d : ℕ) → slice_index_or signers place d ≤ slice_index_or signers (place - 1) d

-- The first thing wrong with a request for a certificate: a value or signers of 2 ^ 32 or more, which have no length in
-- the encoding, or the first index that isn't greater than the one before it.
pub data IsUnwritable (value signers : List ℕ) (status number : ℕ) : Type 0 where
  long_value : status ≡ 3 → number ≡ length value → 2 ^ 32 ≤ number → IsUnwritable value signers status number
  many_signers : status ≡ 3 → length value < 2 ^ 32 → number ≡ length signers → 2 ^ 32 ≤ number
      → IsUnwritable value signers status number
  not_rising : status ≡ 4 → length value < 2 ^ 32 → length signers < 2 ^ 32 → IsFirstDescent signers number
      → IsUnwritable value signers status number

-- the value of a decision for a slot can be that of a certificate: it has fewer than 2 ^ 32 bytes
abbrev pub IsSignedValue : List ℕ → List ℕ → Type 0
IsSignedValue slot decision =
    (length slot < 2 ^ 32) × (length decision < 2 ^ 32) × (length (union_text slot decision) < 2 ^ 32)

-- the first length that is 2 ^ 32 or more: of the slot, of the decision, or of the value
pub data IsNoValue (slot decision : List ℕ) (number : ℕ) : Type 0 where
  long_slot : number ≡ length slot → 2 ^ 32 ≤ number → IsNoValue slot decision number
  long_decision : length slot < 2 ^ 32 → number ≡ length decision → 2 ^ 32 ≤ number → IsNoValue slot decision number
  long_union : length slot < 2 ^ 32 → length decision < 2 ^ 32 → number ≡ length (union_text slot decision)
      → 2 ^ 32 ≤ number → IsNoValue slot decision number
