-- What two certificates, which are encodings, say of who signed both, where quorums are by weight.
use Rattle.std.specs.Prelude.{◌≡◌, ◌≢◌, ◌⊎◌, ℕ, List, Result, Ok, Err, length}
use Rattle.committee_certificates.specs.Signers.{AreInBoth, AreMembers}
use Rattle.committee_weights.specs.Members.{AreTooLight, AreWeightedQuorum, weight_of}
use Rattle.commonware_utils.specs.Codec.{list_enc, varint}
use Rattle.judge_verdicts.specs.Conflicts.{AreBothRead, AreMisread, HaveOutsider}
use Rattle.judge_verdicts.specs.Weights.{AreListed, AreNoWeights}
use Rattle.judge_verdicts.specs.declared.weighted_conflict.NoWeightedConflict.{NoWeightedConflict}
use Rattle.judge_verdicts.specs.declared.weighted_conflict.NoWeightedConflict.TheVariants.{EqualValues, Outside}
use Rattle.judge_verdicts.specs.declared.weighted_conflict.NoWeightedConflict.TheVariants.{TooLight, Unlisted, Unread}
use Rattle.judge_verdicts.specs.declared.weighted_members.WeightedMembers.{WeightedMembers}
use Rattle.judge_verdicts.specs.declared.whole.Misread.{Misread}

-- the bytes of a set of members, and what they weigh
pub record Weighed : Type 0 where
  pub bytes : List ℕ
  pub weight : ℕ

-- the same of what a verdict holds
abbrev pub weighed_of : {A E : Type 0} → Result (WeightedMembers A) E → Result Weighed E
weighed_of (Ok named) = Ok record { bytes = named.members.items; weight = named.weight }
weighed_of (Err e) = Err e

-- signers that weigh a quorum signed each of two certificates, and no one else
abbrev pub AreBothOfWeightedQuorums : ℕ → List ℕ → List ℕ × List ℕ → List ℕ × List ℕ → Type 0
AreBothOfWeightedQuorums k weights one other =
    AreWeightedQuorum k weights one.1 × AreWeightedQuorum k weights other.1

-- all signers of two certificates are members, and those of one of them weigh less than a quorum
abbrev pub HaveTooLight : ℕ → List ℕ → List ℕ × List ℕ → List ℕ × List ℕ → Type 0
HaveTooLight k weights one other =
    AreMembers (length weights) one.1 × AreMembers (length weights) other.1
    × (AreTooLight k weights one.1 ⊎ AreTooLight k weights other.1)

-- the bytes are those of the set of exactly the signers of both, and this is what they weigh
abbrev pub AreWeighedInBoth : List ℕ → List ℕ × List ℕ → List ℕ × List ℕ → Weighed → Type 0
AreWeighedInBoth weights one other named =
    (both : List ℕ) × AreInBoth one.1 other.1 both × (named.bytes ≡ list_enc varint both)
    × (named.weight ≡ weight_of weights both)

-- what two certificates say of participants with these weights at a resilience k
abbrev pub IsWeightedConflictOf : ℕ → List ℕ → List ℕ × List ℕ → List ℕ × List ℕ → Result Weighed NoWeightedConflict
    → Type 0
IsWeightedConflictOf k weights one other (Ok named) =
    (one.0 ≢ other.0) × AreBothOfWeightedQuorums k weights one other × AreWeighedInBoth weights one other named
IsWeightedConflictOf k weights one other (Err EqualValues) = one.0 ≡ other.0
IsWeightedConflictOf k weights one other (Err Outside) = (one.0 ≢ other.0) × HaveOutsider (length weights) one other
IsWeightedConflictOf k weights one other (Err TooLight) = (one.0 ≢ other.0) × HaveTooLight k weights one other
IsWeightedConflictOf k weights one other (Err (Unlisted why)) = ⊥
IsWeightedConflictOf k weights one other (Err (Unread what)) = ⊥

-- the first input lists weights, and the others are certificates, of which Says holds
abbrev pub AreWeightsAndBothRead : List ℕ → List ℕ → List ℕ → (List ℕ → List ℕ × List ℕ → List ℕ × List ℕ → Type 0)
    → Type 0
AreWeightsAndBothRead list first second Says =
    (weights : List ℕ) × AreListed list weights × AreBothRead first second (Says weights)

-- the first input lists weights, and one of the others isn't read
abbrev pub AreWeightsAndMisread : List ℕ → List ℕ → List ℕ → Misread → Type 0
AreWeightsAndMisread list first second what =
    (weights : List ℕ) × AreListed list weights × AreMisread first second what

-- what the encodings of weights and of two certificates say; or one of them isn't read, the weights first
abbrev pub IsWeightedConflict : ℕ → List ℕ → List ℕ → List ℕ → Result Weighed NoWeightedConflict → Type 0
IsWeightedConflict k list first second (Ok named) =
    AreWeightsAndBothRead list first second (λ weights one other. IsWeightedConflictOf k weights one other (Ok named))
IsWeightedConflict k list first second (Err EqualValues) =
    AreWeightsAndBothRead list first second
    (λ weights one other. IsWeightedConflictOf k weights one other (Err EqualValues))
IsWeightedConflict k list first second (Err Outside) =
    AreWeightsAndBothRead list first second
    (λ weights one other. IsWeightedConflictOf k weights one other (Err Outside))
IsWeightedConflict k list first second (Err TooLight) =
    AreWeightsAndBothRead list first second
    (λ weights one other. IsWeightedConflictOf k weights one other (Err TooLight))
IsWeightedConflict k list first second (Err (Unlisted why)) = AreNoWeights list why
IsWeightedConflict k list first second (Err (Unread what)) = AreWeightsAndMisread list first second what
