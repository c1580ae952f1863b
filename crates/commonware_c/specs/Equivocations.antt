-- What the C functions return for two certificates whose values are decisions for slots.
use Rattle.std.specs.Prelude.{◌≡◌, ℕ, ◌<◌, Bool, List, length}
use Rattle.committee_certificates.specs.Accountability.{EachHasEquivocated, EachSigned, InLog}
use Rattle.committee_certificates.specs.Slots.{AreOfOtherSlots, AreOneDecision, Contradict, HasSlot}
use Rattle.commonware_faults.specs.Tolerance.{IsFaultTolerance}
use Rattle.commonware_c.specs.Certificates.{AreAccused, AreNoQuorums, AreTwo, AreUnread, IsModel}

-- The first reason for which two values don't contradict one another, and which of the two it is about: each case says
-- that those before it don't hold.
pub data AreNoContradiction (value other : List ℕ) (status which : ℕ) : Type 0 where
  first_no_slot : status ≡ 14 → which ≡ 1 → ¬ HasSlot value → AreNoContradiction value other status which
  second_no_slot : status ≡ 14 → which ≡ 2 → HasSlot value → ¬ HasSlot other
      → AreNoContradiction value other status which
  other_slot : status ≡ 15 → which ≡ 0 → AreOfOtherSlots value other → AreNoContradiction value other status which
  same_decision : status ≡ 8 → which ≡ 0 → AreOneDecision value other → AreNoContradiction value other status which

-- their values don't contradict one another
abbrev pub LackContradiction : ℕ → ℕ → List ℕ × List ℕ → List ℕ × List ℕ → Type 0
LackContradiction status which one two = AreNoContradiction one.0 two.0 status which

-- their values contradict one another, and their signers aren't both quorums
abbrev pub ContradictWithoutQuorum : ℕ → ℕ → ℕ → ℕ → List ℕ × List ℕ → List ℕ × List ℕ → Type 0
ContradictWithoutQuorum n f status which one two =
    Contradict one.0 two.0 × AreNoQuorums n f one.1 two.1 status which

-- Their values contradict one another; and whatever log of signatures there is, if each signer of each signed its
-- value, then each that is named has equivocated.
abbrev pub HaveEquivocated : List ℕ → List ℕ × List ℕ → List ℕ × List ℕ → Type 0
HaveEquivocated named one two =
    Contradict one.0 two.0
    × ((log : ℕ → List ℕ → Bool) → EachSigned (InLog log) one.1 one.0 → EachSigned (InLog log) two.1 two.0
    → EachHasEquivocated (InLog log) named)

-- all that is so of the accused, of two different decisions for one slot
pub record AreEquivocators (k n : ℕ) (first second named : List ℕ) : Type 0 where
  pub accused : AreAccused k n first second named
  pub guilty : AreTwo first second (HaveEquivocated named)

-- The first reason for which two inputs name no one that equivocated: each case says that those before it don't hold.
pub data IsNoEquivocation (k n : ℕ) (first second : List ℕ) (status which number : ℕ) : Type 0 where
  unread : AreUnread k n first second status which number → IsNoEquivocation k n first second status which number
  no_contradiction : number ≡ 0 → IsModel k n → AreTwo first second (LackContradiction status which)
      → IsNoEquivocation k n first second status which number
  no_quorum : (f : ℕ) → number ≡ 0 → IsModel k n → IsFaultTolerance k n f
      → AreTwo first second (ContradictWithoutQuorum n f status which)
      → IsNoEquivocation k n first second status which number

-- the room is too small for those that equivocated
abbrev pub LacksRoomForEquivocators : ℕ → ℕ → List ℕ → List ℕ → ℕ → ℕ → Type 0
LacksRoomForEquivocators k n first second room count =
    (named : List ℕ) × AreEquivocators k n first second named × (count ≡ length named) × (room < count)
