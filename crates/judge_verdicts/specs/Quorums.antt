-- What a certificate, which is an encoding, says of whether a quorum signed it.
use Rattle.std.specs.Prelude.{◌≡◌, ℕ, List, Option, Some, None, Vec, Result, Ok, Err, length}
use Rattle.committee_certificates.specs.Signers.{AreMembers, AreQuorum, AreTooFew, HasOutsider}
use Rattle.committee_certificates.specs.Slots.{HasSlot, IsFor}
use Rattle.commonware_utils.specs.Faults.{IsFaultTolerance}
use Rattle.judge_questions.specs.Limits.{full}
use Rattle.judge_verdicts.specs.Readings.{a_certificate}
use Rattle.judge_verdicts.specs.Whole.{IsMisread, IsWhole}
use Rattle.judge_verdicts.specs.declared.quorum.Checked.{Checked}
use Rattle.judge_verdicts.specs.declared.quorum.NoQuorum.{NoQuorum}
use Rattle.judge_verdicts.specs.declared.quorum.NoQuorum.TheVariants.{Outside, TooFew, Unread}

-- how many signed a certificate, and the slot and the decision that its value is, if it has a slot
pub record Certified : Type 0 where
  pub signers : ℕ
  pub slot : Option (List ℕ × List ℕ)

-- the bytes of a slot and a decision
abbrev pub slot_items : {A : Type 0} → Option (Vec ℕ A × Vec ℕ A) → Option (List ℕ × List ℕ)
slot_items (Some slot) = Some (slot.0.items, slot.1.items)
slot_items None = None

-- the same of what was checked
abbrev pub checked_of : {A : Type 0} → Result (Checked A) NoQuorum → Result Certified NoQuorum
checked_of (Ok checked) = Ok record { signers = checked.signers; slot = slot_items checked.slot }
checked_of (Err e) = Err e

-- the value is a decision for the slot, or it has no slot
abbrev pub IsSlotOf : List ℕ → Option (List ℕ × List ℕ) → Type 0
IsSlotOf value (Some slot) = IsFor value slot.0 slot.1
IsSlotOf value None = ¬ HasSlot value

-- the input is a certificate, its value and its signers, of which Says holds
abbrev pub IsRead : List ℕ → (List ℕ × List ℕ → Type 0) → Type 0
IsRead text Says =
    (certificate : List ℕ × List ℕ) × IsWhole (a_certificate full full) text certificate × Says certificate

-- An allocation may fail only where reading the certificate isn't memory-free: where it is, the value is empty and no
-- one signed it, so nothing else is kept.
abbrev pub MayFailToAllocateToJudge : List ℕ → Type 0
MayFailToAllocateToJudge text = ¬ (a_certificate full full).MemoryFree text

-- what a certificate says of a committee of n at a resilience k
abbrev pub IsChecked : ℕ → ℕ → List ℕ → Result Certified NoQuorum → Type 0
IsChecked k n text (Ok certified) =
    IsRead text (λ certificate. ((faults : ℕ) × IsFaultTolerance k n faults × AreQuorum (λ _. faults) n certificate.1)
    × (certified.signers ≡ length certificate.1) × IsSlotOf certificate.0 certified.slot)
IsChecked k n text (Err Outside) = IsRead text (λ certificate. HasOutsider n certificate.1)
IsChecked k n text (Err TooFew) =
    IsRead text (λ certificate. AreMembers n certificate.1
    × ((faults : ℕ) × IsFaultTolerance k n faults × AreTooFew (λ _. faults) n certificate.1))
IsChecked k n text (Err (Unread what)) = IsMisread (a_certificate full full) text what
