-- What two certificates, which are encodings, say of who signed both.
use Rattle.std.specs.Prelude.{◌≡◌, ◌≢◌, ◌⊎◌, ℕ, List, Result, Ok, Err}
use Rattle.committee_certificates.specs.Signers.{AreInBoth, AreMembers, AreQuorum, AreTooFew, HasOutsider}
use Rattle.commonware_utils.specs.Codec.{list_enc, varint}
use Rattle.commonware_utils.specs.Faults.{IsFaultTolerance}
use Rattle.judge_questions.specs.Limits.{full}
use Rattle.judge_verdicts.specs.Quorums.{MayFailToAllocateToJudge}
use Rattle.judge_verdicts.specs.Readings.{a_certificate}
use Rattle.judge_verdicts.specs.Whole.{IsMisread, IsWhole}
use Rattle.judge_verdicts.specs.declared.conflict.NoConflict.{NoConflict}
use Rattle.judge_verdicts.specs.declared.conflict.NoConflict.TheVariants.{EqualValues, Outside, TooFew, Unread}
use Rattle.judge_verdicts.specs.declared.whole.Misread.{Misread}

-- the inputs are these certificates, each its value and its signers
abbrev pub AreWhole : List ℕ → List ℕ → List ℕ × List ℕ → List ℕ × List ℕ → Type 0
AreWhole first second one other =
    IsWhole (a_certificate full full) first one × IsWhole (a_certificate full full) second other

-- one of the inputs isn't read, the first before the second
abbrev pub AreMisread : List ℕ → List ℕ → Misread → Type 0
AreMisread first second what =
    IsMisread (a_certificate full full) first what
    ⊎ ((one : List ℕ × List ℕ) × IsWhole (a_certificate full full) first one
    × IsMisread (a_certificate full full) second what)

-- An allocation may fail only where reading the first certificate isn't memory-free, or where it is a certificate and
-- reading the second isn't. Members are named only where both have signers, and then neither reading is.
abbrev pub MayFailToAllocateToJudgeBoth : List ℕ → List ℕ → Type 0
MayFailToAllocateToJudgeBoth first second =
    MayFailToAllocateToJudge first
    ⊎ ((one : List ℕ × List ℕ) × IsWhole (a_certificate full full) first one × MayFailToAllocateToJudge second)

-- a quorum of members signed each of two certificates, and no one else
abbrev pub AreBothOfQuorums : ℕ → ℕ → List ℕ × List ℕ → List ℕ × List ℕ → Type 0
AreBothOfQuorums k n one other =
    (faults : ℕ) × IsFaultTolerance k n faults × AreQuorum (λ _. faults) n one.1 × AreQuorum (λ _. faults) n other.1

-- a signer of one of two certificates is no member
abbrev pub HaveOutsider : ℕ → List ℕ × List ℕ → List ℕ × List ℕ → Type 0
HaveOutsider n one other = HasOutsider n one.1 ⊎ HasOutsider n other.1

-- all signers of two certificates are members, and fewer than a quorum signed one of them
abbrev pub HaveTooFew : ℕ → ℕ → List ℕ × List ℕ → List ℕ × List ℕ → Type 0
HaveTooFew k n one other =
    AreMembers n one.1 × AreMembers n other.1
    × ((faults : ℕ) × IsFaultTolerance k n faults
    × (AreTooFew (λ _. faults) n one.1 ⊎ AreTooFew (λ _. faults) n other.1))

-- the bytes are those of the set of exactly the signers of both
abbrev pub AreBytesOfBoth : List ℕ × List ℕ → List ℕ × List ℕ → List ℕ → Type 0
AreBytesOfBoth one other bytes = (both : List ℕ) × AreInBoth one.1 other.1 both × (bytes ≡ list_enc varint both)

-- what two certificates say of a committee of n at a resilience k
abbrev pub IsConflictOf : ℕ → ℕ → List ℕ × List ℕ → List ℕ × List ℕ → Result (List ℕ) NoConflict → Type 0
IsConflictOf k n one other (Ok bytes) =
    (one.0 ≢ other.0) × AreBothOfQuorums k n one other × AreBytesOfBoth one other bytes
IsConflictOf k n one other (Err EqualValues) = one.0 ≡ other.0
IsConflictOf k n one other (Err Outside) = (one.0 ≢ other.0) × HaveOutsider n one other
IsConflictOf k n one other (Err TooFew) = (one.0 ≢ other.0) × HaveTooFew k n one other
IsConflictOf k n one other (Err (Unread what)) = ⊥

-- both inputs are certificates, of which Says holds
abbrev pub AreBothRead : List ℕ → List ℕ → (List ℕ × List ℕ → List ℕ × List ℕ → Type 0) → Type 0
AreBothRead first second Says =
    (one : List ℕ × List ℕ) × (other : List ℕ × List ℕ) × AreWhole first second one other × Says one other

-- what the encodings of two certificates say; or one of them isn't read
abbrev pub IsConflict : ℕ → ℕ → List ℕ → List ℕ → Result (List ℕ) NoConflict → Type 0
IsConflict k n first second (Ok bytes) =
    AreBothRead first second (λ one other. IsConflictOf k n one other (Ok bytes))
IsConflict k n first second (Err EqualValues) =
    AreBothRead first second (λ one other. IsConflictOf k n one other (Err EqualValues))
IsConflict k n first second (Err Outside) =
    AreBothRead first second (λ one other. IsConflictOf k n one other (Err Outside))
IsConflict k n first second (Err TooFew) =
    AreBothRead first second (λ one other. IsConflictOf k n one other (Err TooFew))
IsConflict k n first second (Err (Unread what)) = AreMisread first second what
