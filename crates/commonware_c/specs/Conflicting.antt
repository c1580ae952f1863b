-- Two certificates that are found in two inputs, and what becomes of those that signed both.
use Rattle.std.specs.Prelude.{◌≡◌, ◌≢◌, ℕ, ◌<◌, ◌≤◌, ◌⊎◌, List, ◌++◌, drop, length}
use Rattle.committee_certificates.specs.InPlace.{AreSignersAt}
use Rattle.committee_certificates.specs.Signers.{AreInBoth, AreQuorum}
use Rattle.committee_certificates.specs.Slots.{Contradict}
use Rattle.committee_certificates.specs.declared.in_place.CertificateAt.{CertificateAt}
use Rattle.committee_certificates.specs.declared.in_place.SignersAt.{SignersAt}
use Rattle.commonware_faults.specs.Tolerance.{IsFaultTolerance}
use Rattle.commonware_c.specs.Certificates.{IsModel, IsWhole}
use Rattle.commonware_c.specs.declared.conflicts.ConflictView.{ConflictView}

-- There is a model and there are members, and the inputs are two certificates: these were found.
pub record AreBothFound (k n : ℕ) (first second : List ℕ) (one_at two_at : CertificateAt) : Type 0 where
  pub model : IsModel k n
  pub ones : List ℕ
  pub twos : List ℕ
  pub first_whole : IsWhole first (one_at.value.now, ones)
  pub second_whole : IsWhole second (two_at.value.now, twos)
  pub first_at : AreSignersAt one_at.signers ones
  pub second_at : AreSignersAt two_at.signers twos

-- The inputs are two certificates for different values, each signed by a quorum of n members at a resilience k, and
-- these are their signers.
pub record AreConflicting (k n : ℕ) (first second : List ℕ) (one_at two_at : SignersAt) : Type 0 where
  pub faults : ℕ
  pub tolerance : IsFaultTolerance k n faults
  pub one : List ℕ × List ℕ
  pub two : List ℕ × List ℕ
  pub first_whole : IsWhole first one
  pub second_whole : IsWhole second two
  pub differ : one.0 ≢ two.0
  pub first_quorum : AreQuorum (λ _. faults) n one.1
  pub second_quorum : AreQuorum (λ _. faults) n two.1
  pub first_at : AreSignersAt one_at one.1
  pub second_at : AreSignersAt two_at two.1

-- The same of two different decisions for one slot.
pub record AreContradicting (k n : ℕ) (first second : List ℕ) (one_at two_at : SignersAt) : Type 0 where
  pub conflicting : AreConflicting k n first second one_at two_at
  pub contradict : Contradict conflicting.one.0 conflicting.two.0

-- The view tells how many are in both, whose indices were written to the start of the room, or had none.
pub record IsViewOfBoth (one two : List ℕ) (view : ConflictView) (old_room new_room : List ℕ) : Type 0 where
  pub both : List ℕ
  pub in_both : AreInBoth one two both
  pub count_is : view.count ≡ length both
  pub which_is : view.which ≡ 0
  pub number_is : view.number ≡ 0
  pub room : ((view.status ≡ 0) × (view.count ≤ length old_room) × (new_room ≡ both ++ drop view.count old_room))
      ⊎ ((view.status ≡ 11) × (length old_room < view.count) × (new_room ≡ old_room))
