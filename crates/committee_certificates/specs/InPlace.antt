-- The signers of a certificate, as they are found in an input.
use Rattle.std.specs.Prelude.{◌≡◌, ℕ, ◌≤◌, ◌↔◌, List, ◌++◌, drop, get_or, length, take}
use Rattle.std.specs.List.{AllByRecursion, flat_map, sum_by}
use Rattle.std.specs.Ordering.{nat_cmp}
use Rattle.commonware_base.specs.Source.{rest_of}
use Rattle.commonware_base.specs.Varint.{varint}
use Rattle.commonware_base.specs.Words.{IsWord}
use Rattle.commonware_ordered.specs.Strict.{IsStrict}
use Rattle.committee_certificates.specs.Signers.{AreInBoth, AreMembers}
use Rattle.committee_certificates.specs.declared.in_place.SignersAt.{SignersAt}

-- the signers that were found are these indices, strictly increasing, whose encodings come next at the place
pub record AreSignersAt (signers : SignersAt) (indices : List ℕ) : Type 0 where
  pub strict : IsStrict nat_cmp indices
  pub words : AllByRecursion IsWord indices
  pub count_is : signers.count ≡ length indices
  pub past_is : (n : ℕ) → AreMembers n indices ↔ (signers.past ≤ n)
  pub rest : List ℕ
  pub begins : rest_of signers.start ≡ flat_map varint indices ++ rest

-- the room as it is once indices are written to its start, as many as it has places for
abbrev pub written : List ℕ → List ℕ → List ℕ
written indices room = take (length room) indices ++ drop (length indices) room

-- `count` indices are in both, and they are written to the start of the room, as many as it has places for
pub record AreWrittenBoth (first second : List ℕ) (count : ℕ) (old_room new_room : List ℕ) : Type 0 where
  pub both : List ℕ
  pub in_both : AreInBoth first second both
  pub count_is : count ≡ length both
  pub room : new_room ≡ written both old_room

-- the sum of the numbers at these indices, of which one past the last number adds none
abbrev pub sum_at : List ℕ → List ℕ → ℕ
sum_at numbers indices = sum_by (λ i. get_or numbers i 0) indices
