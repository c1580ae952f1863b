-- What a certificate, which is an encoding, says of whether signers that weigh a quorum signed it.
use Rattle.std.specs.Prelude.{◌≡◌, ℕ, List, Option, Result, Ok, Err, length}
use Rattle.committee_certificates.specs.Signers.{AreMembers, HasOutsider}
use Rattle.committee_weights.specs.Members.{AreTooLight, AreWeightedQuorum, weight_of}
use Rattle.judge_questions.specs.Limits.{full}
use Rattle.judge_verdicts.specs.Quorums.{IsRead, IsSlotOf, slot_items}
use Rattle.judge_verdicts.specs.Readings.{a_certificate}
use Rattle.judge_verdicts.specs.Weights.{AreListed, AreNoWeights}
use Rattle.judge_verdicts.specs.Whole.{IsMisread}
use Rattle.judge_verdicts.specs.declared.weighted_quorum.NoWeightedQuorum.{NoWeightedQuorum}
use Rattle.judge_verdicts.specs.declared.weighted_quorum.NoWeightedQuorum.TheVariants.{Outside, TooLight}
use Rattle.judge_verdicts.specs.declared.weighted_quorum.NoWeightedQuorum.TheVariants.{Unlisted, Unread}
use Rattle.judge_verdicts.specs.declared.weighted_quorum.WeightChecked.{WeightChecked}

-- how many signed a certificate, what they weigh, and the slot and the decision that its value is, if it has a slot
pub record WeightCertified : Type 0 where
  pub signers : ℕ
  pub weight : ℕ
  pub slot : Option (List ℕ × List ℕ)

-- the same of what was checked
abbrev pub weight_checked_of : {A : Type 0} → Result (WeightChecked A) NoWeightedQuorum
    → Result WeightCertified NoWeightedQuorum
weight_checked_of (Ok checked) =
    Ok record { signers = checked.signers; weight = checked.weight; slot = slot_items checked.slot }
weight_checked_of (Err e) = Err e

-- what a certificate, its value and its signers, says of participants with these weights at a resilience k
abbrev pub IsCheckedByWeight : ℕ → List ℕ → List ℕ × List ℕ → Result WeightCertified NoWeightedQuorum → Type 0
IsCheckedByWeight k weights certificate (Ok certified) =
    AreWeightedQuorum k weights certificate.1 × (certified.signers ≡ length certificate.1)
    × (certified.weight ≡ weight_of weights certificate.1) × IsSlotOf certificate.0 certified.slot
IsCheckedByWeight k weights certificate (Err Outside) = HasOutsider (length weights) certificate.1
IsCheckedByWeight k weights certificate (Err TooLight) =
    AreMembers (length weights) certificate.1 × AreTooLight k weights certificate.1
IsCheckedByWeight k weights certificate (Err (Unlisted why)) = ⊥
IsCheckedByWeight k weights certificate (Err (Unread what)) = ⊥

-- the first input lists weights and the second is a certificate, of which Says holds
abbrev pub AreWeightsAndRead : List ℕ → List ℕ → (List ℕ → List ℕ × List ℕ → Type 0) → Type 0
AreWeightsAndRead list text Says = (weights : List ℕ) × AreListed list weights × IsRead text (Says weights)

-- what the encodings of weights and of a certificate say; or one of them isn't read, the weights first
abbrev pub IsWeightChecked : ℕ → List ℕ → List ℕ → Result WeightCertified NoWeightedQuorum → Type 0
IsWeightChecked k list text (Ok certified) =
    AreWeightsAndRead list text (λ weights certificate. IsCheckedByWeight k weights certificate (Ok certified))
IsWeightChecked k list text (Err Outside) =
    AreWeightsAndRead list text (λ weights certificate. IsCheckedByWeight k weights certificate (Err Outside))
IsWeightChecked k list text (Err TooLight) =
    AreWeightsAndRead list text (λ weights certificate. IsCheckedByWeight k weights certificate (Err TooLight))
IsWeightChecked k list text (Err (Unlisted why)) = AreNoWeights list why
IsWeightChecked k list text (Err (Unread what)) =
    (weights : List ℕ) × AreListed list weights × IsMisread (a_certificate full full) text what
