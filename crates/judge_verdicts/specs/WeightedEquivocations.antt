-- What two certificates, which are encodings, say of who signed two different decisions for one slot, where quorums are
-- by weight: accountability.
use Rattle.std.specs.Prelude.{◌⊎◌, ℕ, List, Result, Ok, Err, length}
use Rattle.committee_certificates.specs.Slots.{AreOfOtherSlots, AreOneDecision, Contradict, HasSlot}
use Rattle.judge_verdicts.specs.Conflicts.{HaveOutsider}
use Rattle.judge_verdicts.specs.WeightedConflicts.{AreBothOfWeightedQuorums, AreWeighedInBoth, AreWeightsAndBothRead}
use Rattle.judge_verdicts.specs.WeightedConflicts.{AreWeightsAndMisread, HaveTooLight, Weighed}
use Rattle.judge_verdicts.specs.Weights.{AreNoWeights}
use Rattle.judge_verdicts.specs.declared.weighted_equivocation.NoWeightedEquivocation.{NoWeightedEquivocation}
use Rattle.judge_verdicts.specs.declared.weighted_equivocation.NoWeightedEquivocation.TheVariants.{NoSlot, OtherSlot}
use Rattle.judge_verdicts.specs.declared.weighted_equivocation.NoWeightedEquivocation.TheVariants.{SameDecision}
use Rattle.judge_verdicts.specs.declared.weighted_equivocation.NoWeightedEquivocation.TheVariants.{Outside, TooLight}
use Rattle.judge_verdicts.specs.declared.weighted_equivocation.NoWeightedEquivocation.TheVariants.{Unlisted, Unread}

-- what two certificates say, each its value and its signers, of participants with these weights at a resilience k
abbrev pub IsWeightedEquivocationOf : ℕ → List ℕ → List ℕ × List ℕ → List ℕ × List ℕ
    → Result Weighed NoWeightedEquivocation → Type 0
IsWeightedEquivocationOf k weights one other (Ok named) =
    Contradict one.0 other.0 × AreBothOfWeightedQuorums k weights one other × AreWeighedInBoth weights one other named
IsWeightedEquivocationOf k weights one other (Err NoSlot) = (¬ HasSlot one.0) ⊎ (¬ HasSlot other.0)
IsWeightedEquivocationOf k weights one other (Err OtherSlot) = AreOfOtherSlots one.0 other.0
IsWeightedEquivocationOf k weights one other (Err SameDecision) = AreOneDecision one.0 other.0
IsWeightedEquivocationOf k weights one other (Err Outside) =
    Contradict one.0 other.0 × HaveOutsider (length weights) one other
IsWeightedEquivocationOf k weights one other (Err TooLight) =
    Contradict one.0 other.0 × HaveTooLight k weights one other
IsWeightedEquivocationOf k weights one other (Err (Unlisted why)) = ⊥
IsWeightedEquivocationOf k weights one other (Err (Unread what)) = ⊥

-- what the encodings of weights and of two certificates say; or one of them isn't read, the weights first
abbrev pub IsWeightedEquivocation : ℕ → List ℕ → List ℕ → List ℕ → Result Weighed NoWeightedEquivocation → Type 0
IsWeightedEquivocation k list first second (Ok named) =
    AreWeightsAndBothRead list first second
    (λ weights one other. IsWeightedEquivocationOf k weights one other (Ok named))
IsWeightedEquivocation k list first second (Err NoSlot) =
    AreWeightsAndBothRead list first second
    (λ weights one other. IsWeightedEquivocationOf k weights one other (Err NoSlot))
IsWeightedEquivocation k list first second (Err OtherSlot) =
    AreWeightsAndBothRead list first second
    (λ weights one other. IsWeightedEquivocationOf k weights one other (Err OtherSlot))
IsWeightedEquivocation k list first second (Err SameDecision) =
    AreWeightsAndBothRead list first second
    (λ weights one other. IsWeightedEquivocationOf k weights one other (Err SameDecision))
IsWeightedEquivocation k list first second (Err Outside) =
    AreWeightsAndBothRead list first second
    (λ weights one other. IsWeightedEquivocationOf k weights one other (Err Outside))
IsWeightedEquivocation k list first second (Err TooLight) =
    AreWeightsAndBothRead list first second
    (λ weights one other. IsWeightedEquivocationOf k weights one other (Err TooLight))
IsWeightedEquivocation k list first second (Err (Unlisted why)) = AreNoWeights list why
IsWeightedEquivocation k list first second (Err (Unread what)) = AreWeightsAndMisread list first second what
