-- What the C function returns for one certificate that a quorum by weight has to have signed.
use Rattle.std.specs.Prelude.{◌≡◌, ℕ, List, length, sum}
use Rattle.committee_certificates.specs.Signers.{AreMembers, HasOutsider}
use Rattle.committee_weights.specs.Members.{AreTooLight, AreWeightedQuorum, faulty_weight, weight_of}
use Rattle.committee_weights.specs.Tolerance.{IsWeightTolerance}
use Rattle.commonware_c.specs.Certificates.{IsNoWhole, IsWhole}
use Rattle.commonware_c.specs.Checks.{IsSlotIn, IsValueAt, StandAt, TellsSlot}
use Rattle.commonware_c.specs.Weights.{AreNoWeights, IsWeightedModel}
use Rattle.commonware_c.specs.declared.checks.CheckView.{CheckView}
use Rattle.commonware_c.specs.declared.weighted_checks.WeightedCheckView.{WeightedCheckView}

-- the view without the weight
abbrev pub without_weight : WeightedCheckView → CheckView
without_weight view = record {
  status = view.status;
  signers = view.signers;
  number = view.number;
  value_start = view.value_start;
  value_length = view.value_length;
  slot_start = view.slot_start;
  slot_length = view.slot_length;
  decision_start = view.decision_start;
  decision_length = view.decision_length;
}

-- s is exactly one certificate, signed by members that weigh a quorum at a resilience k, and by no one else
abbrev pub IsWeightedCertificateOf : ℕ → List ℕ → List ℕ → List ℕ × List ℕ → Type 0
IsWeightedCertificateOf k weights s certificate =
    IsWeightedModel k weights × IsWhole s certificate × AreWeightedQuorum k weights certificate.1

-- the view tells of the certificate, where its parts are, and what its signers weigh; a quorum is all but the greatest
-- weight that is safe for all weights of this total
pub record IsToldByWeight (k : ℕ) (weights s : List ℕ) (view : CheckView) (weight : ℕ) : Type 0 where
  pub value : List ℕ
  pub signers : List ℕ
  pub certified : IsWeightedCertificateOf k weights s (value, signers)
  pub tolerance : IsWeightTolerance k (sum weights) (faulty_weight k (sum weights))
  pub signers_is : view.signers ≡ length signers
  pub weight_is : weight ≡ weight_of weights signers
  pub number_is : view.number ≡ 0
  pub value_stands : StandAt s view.value_start view.value_length value
  pub value_place : IsValueAt value view
  pub slot : TellsSlot s value view
  pub slot_place : IsSlotIn value view

-- The first reason for which s is no certificate of a quorum: each case says that those before it don't hold.
pub data IsUncertifiedByWeight (k : ℕ) (weights s : List ℕ) (status number : ℕ) : Type 0 where
  no_weights : AreNoWeights k weights status number → IsUncertifiedByWeight k weights s status number
  unread : IsWeightedModel k weights → IsNoWhole s status number → IsUncertifiedByWeight k weights s status number
  outside : status ≡ 9 → number ≡ 0 → IsWeightedModel k weights → (certificate : List ℕ × List ℕ)
      → IsWhole s certificate → HasOutsider (length weights) certificate.1
      → IsUncertifiedByWeight k weights s status number
  too_light : status ≡ 22 → number ≡ 0 → IsWeightedModel k weights → (certificate : List ℕ × List ℕ)
      → IsWhole s certificate → AreMembers (length weights) certificate.1 → AreTooLight k weights certificate.1
      → IsUncertifiedByWeight k weights s status number
