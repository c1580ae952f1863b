-- What two certificates, which are encodings, say of who signed two different decisions for one slot: accountability.
use Rattle.std.specs.Prelude.{◌⊎◌, ℕ, List, Result, Ok, Err}
use Rattle.committee_certificates.specs.Slots.{AreOfOtherSlots, AreOneDecision, Contradict, HasSlot}
use Rattle.judge_verdicts.specs.Conflicts.{AreBothOfQuorums, AreBothRead, AreBytesOfBoth, AreMisread}
use Rattle.judge_verdicts.specs.Conflicts.{HaveOutsider, HaveTooFew}
use Rattle.judge_verdicts.specs.declared.equivocation.NoEquivocation.{NoEquivocation}
use Rattle.judge_verdicts.specs.declared.equivocation.NoEquivocation.TheVariants.{NoSlot, OtherSlot, SameDecision}
use Rattle.judge_verdicts.specs.declared.equivocation.NoEquivocation.TheVariants.{Outside, TooFew, Unread}

-- what two certificates say, each its value and its signers, of a committee of n at a resilience k
abbrev pub IsEquivocationOf : ℕ → ℕ → List ℕ × List ℕ → List ℕ × List ℕ → Result (List ℕ) NoEquivocation → Type 0
IsEquivocationOf k n one other (Ok bytes) =
    Contradict one.0 other.0 × AreBothOfQuorums k n one other × AreBytesOfBoth one other bytes
IsEquivocationOf k n one other (Err NoSlot) = (¬ HasSlot one.0) ⊎ (¬ HasSlot other.0)
IsEquivocationOf k n one other (Err OtherSlot) = AreOfOtherSlots one.0 other.0
IsEquivocationOf k n one other (Err SameDecision) = AreOneDecision one.0 other.0
IsEquivocationOf k n one other (Err Outside) = Contradict one.0 other.0 × HaveOutsider n one other
IsEquivocationOf k n one other (Err TooFew) = Contradict one.0 other.0 × HaveTooFew k n one other
IsEquivocationOf k n one other (Err (Unread what)) = ⊥

-- what the encodings of two certificates say; or one of them isn't read
abbrev pub IsEquivocation : ℕ → ℕ → List ℕ → List ℕ → Result (List ℕ) NoEquivocation → Type 0
IsEquivocation k n first second (Ok bytes) =
    AreBothRead first second (λ one other. IsEquivocationOf k n one other (Ok bytes))
IsEquivocation k n first second (Err NoSlot) =
    AreBothRead first second (λ one other. IsEquivocationOf k n one other (Err NoSlot))
IsEquivocation k n first second (Err OtherSlot) =
    AreBothRead first second (λ one other. IsEquivocationOf k n one other (Err OtherSlot))
IsEquivocation k n first second (Err SameDecision) =
    AreBothRead first second (λ one other. IsEquivocationOf k n one other (Err SameDecision))
IsEquivocation k n first second (Err Outside) =
    AreBothRead first second (λ one other. IsEquivocationOf k n one other (Err Outside))
IsEquivocation k n first second (Err TooFew) =
    AreBothRead first second (λ one other. IsEquivocationOf k n one other (Err TooFew))
IsEquivocation k n first second (Err (Unread what)) = AreMisread first second what
