-- What the C functions return for two certificates whose values are decisions for slots, where quorums are by weight.
use Rattle.std.specs.Prelude.{◌≡◌, ℕ, ◌<◌, List, length}
use Rattle.committee_certificates.specs.Slots.{Contradict}
use Rattle.committee_certificates.specs.declared.in_place.SignersAt.{SignersAt}
use Rattle.commonware_c.specs.Certificates.{AreTwo, AreUnread}
use Rattle.commonware_c.specs.Equivocations.{HaveEquivocated, LackContradiction}
use Rattle.commonware_c.specs.WeightedConflicts.{AreAccusedByWeight, AreConflictingByWeight, AreNoWeightedQuorums}
use Rattle.commonware_c.specs.Weights.{AreNoWeights, IsWeightedModel}

-- their values contradict one another, and their signers aren't both quorums
abbrev pub ContradictWithoutWeight : ℕ → List ℕ → ℕ → ℕ → List ℕ × List ℕ → List ℕ × List ℕ → Type 0
ContradictWithoutWeight k weights status which one two =
    Contradict one.0 two.0 × AreNoWeightedQuorums k weights one.1 two.1 status which

-- all that is so of the accused, of two different decisions for one slot
pub record AreEquivocatorsByWeight (k : ℕ) (weights first second named : List ℕ) : Type 0 where
  pub accused : AreAccusedByWeight k weights first second named
  pub guilty : AreTwo first second (HaveEquivocated named)

-- The first reason for which two inputs name no one that equivocated: each case says that those before it don't hold.
pub data IsNoEquivocationByWeight (k : ℕ) (weights first second : List ℕ) (status which number : ℕ) : Type 0 where
  no_weights : which ≡ 0 → AreNoWeights k weights status number
      → IsNoEquivocationByWeight k weights first second status which number
  unread : IsWeightedModel k weights → AreUnread k (length weights) first second status which number
      → IsNoEquivocationByWeight k weights first second status which number
  no_contradiction : number ≡ 0 → IsWeightedModel k weights → AreTwo first second (LackContradiction status which)
      → IsNoEquivocationByWeight k weights first second status which number
  no_quorum : number ≡ 0 → IsWeightedModel k weights
      → AreTwo first second (ContradictWithoutWeight k weights status which)
      → IsNoEquivocationByWeight k weights first second status which number

-- the room is too small for those that equivocated
abbrev pub LacksRoomForEquivocatorsByWeight : ℕ → List ℕ → List ℕ → List ℕ → ℕ → ℕ → Type 0
LacksRoomForEquivocatorsByWeight k weights first second room count =
    (named : List ℕ) × AreEquivocatorsByWeight k weights first second named × (count ≡ length named) × (room < count)

-- Two certificates for different values and their signers, as weighted conflicts have them, of two decisions for one
-- slot.
pub record AreContradictingByWeight (k : ℕ) (weights first second : List ℕ) (one_at two_at : SignersAt) : Type 0 where
  pub conflicting : AreConflictingByWeight k weights first second one_at two_at
  pub contradict : Contradict conflicting.one.0 conflicting.two.0
