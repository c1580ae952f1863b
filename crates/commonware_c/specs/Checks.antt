-- What the C function returns for one certificate that a quorum has to have signed.
use Rattle.std.specs.Prelude.{◌≡◌, ℕ, ◌+◌, ◌<◌, ◌≤◌, List, drop, length, take}
use Rattle.commonware_base.specs.Varint.{varint}
use Rattle.committee_certificates.specs.Signers.{AreMembers, AreQuorum, AreTooFew, HasOutsider}
use Rattle.committee_certificates.specs.Slots.{HasSlot, IsFor}
use Rattle.commonware_faults.specs.Tolerance.{IsFaultTolerance}
use Rattle.commonware_c.specs.Certificates.{IsModel, IsNoWhole, IsWhole}
use Rattle.commonware_c.specs.declared.checks.CheckView.{CheckView}

-- `count` bytes of s from start on are these
pub record StandAt (s : List ℕ) (start count : ℕ) (bytes : List ℕ) : Type 0 where
  pub stands : take count (drop start s) ≡ bytes
  pub count_is : count ≡ length bytes

-- the view tells where the value's slot and decision are, or that it has none
pub data TellsSlot (s value : List ℕ) (view : CheckView) : Type 0 where
  with_slot : (slot : List ℕ) (decision : List ℕ) → IsFor value slot decision → 0 < view.slot_start
      → StandAt s view.slot_start view.slot_length slot → StandAt s view.decision_start view.decision_length decision
      → TellsSlot s value view
  without_slot : (¬ HasSlot value) → view.slot_start ≡ 0 → view.slot_length ≡ 0 → view.decision_start ≡ 0
      → view.decision_length ≡ 0 → TellsSlot s value view

-- the view tells where a certificate's value begins, after its length, and how long it is
pub record IsValueAt (value : List ℕ) (view : CheckView) : Type 0 where
  pub start_is : view.value_start ≡ length (varint (length value))
  pub length_is : view.value_length ≡ length value

-- The view tells where the value's slot begins, after its length, and its decision after it; or that it has none. The
-- places are counted from the bytes that the value is in.
pub data IsSlotIn (value : List ℕ) (view : CheckView) : Type 0 where
  slot_in : (slot : List ℕ) (decision : List ℕ) → IsFor value slot decision
      → view.slot_start ≡ view.value_start + length (varint (length slot)) → view.slot_length ≡ length slot
      → view.decision_start ≡ view.slot_start + length slot → view.decision_length ≡ length decision
      → IsSlotIn value view
  no_slot_in : (¬ HasSlot value) → view.slot_start ≡ 0 → view.slot_length ≡ 0 → view.decision_start ≡ 0
      → view.decision_length ≡ 0 → IsSlotIn value view

-- s is exactly one certificate, signed by a quorum of n members at a resilience k and by no one else
abbrev pub IsCertifiedOf : ℕ → ℕ → List ℕ → List ℕ × List ℕ → Type 0
IsCertifiedOf k n s certificate =
    IsModel k n × IsWhole s certificate
    × ((f : ℕ) × IsFaultTolerance k n f × AreQuorum (λ _. f) n certificate.1)

-- the view tells of the certificate, and where its parts are
pub record IsToldOf (k n : ℕ) (s : List ℕ) (view : CheckView) : Type 0 where
  pub value : List ℕ
  pub signers : List ℕ
  pub certified : IsCertifiedOf k n s (value, signers)
  pub signers_is : view.signers ≡ length signers
  pub number_is : view.number ≡ 0
  pub value_stands : StandAt s view.value_start view.value_length value
  pub value_place : IsValueAt value view
  pub slot : TellsSlot s value view
  pub slot_place : IsSlotIn value view

-- The first reason for which s is no certificate of a quorum: each case says that those before it don't hold.
pub data IsUncertified (k n : ℕ) (s : List ℕ) (status number : ℕ) : Type 0 where
  no_model : status ≡ 13 → number ≡ 0 → k < 2 → IsUncertified k n s status number
  no_members : status ≡ 7 → number ≡ 0 → 2 ≤ k → n ≡ 0 → IsUncertified k n s status number
  unread : IsModel k n → IsNoWhole s status number → IsUncertified k n s status number
  outside : status ≡ 9 → number ≡ 0 → IsModel k n → (certificate : List ℕ × List ℕ) → IsWhole s certificate
      → HasOutsider n certificate.1 → IsUncertified k n s status number
  too_few : (f : ℕ) → status ≡ 10 → number ≡ 0 → IsModel k n → IsFaultTolerance k n f
      → (certificate : List ℕ × List ℕ) → IsWhole s certificate → AreMembers n certificate.1
      → AreTooFew (λ _. f) n certificate.1 → IsUncertified k n s status number
