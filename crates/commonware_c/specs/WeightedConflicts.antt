-- What the C functions return for two certificates of different values, where quorums are by weight.
use Rattle.std.specs.Prelude.{◌≡◌, ◌≢◌, ℕ, ◌+◌, ◌-◌, ◌*◌, ◌<◌, ◌≤◌, List, length, sum, take}
use Rattle.committee_certificates.specs.InPlace.{AreSignersAt}
use Rattle.committee_certificates.specs.Signers.{AreInBoth, AreMembers, HasOutsider}
use Rattle.committee_certificates.specs.declared.in_place.SignersAt.{SignersAt}
use Rattle.committee_weights.specs.Members.{AreTooLight, AreWeightedQuorum, LeavesOneOutsideWeight, faulty_weight}
use Rattle.committee_weights.specs.Members.{weight_of}
use Rattle.committee_weights.specs.Tolerance.{IsWeightTolerance}
use Rattle.commonware_c.specs.Certificates.{AreTwo, AreUnread, HaveSameValue, IsWhole}
use Rattle.commonware_c.specs.Conflicting.{IsViewOfBoth}
use Rattle.commonware_c.specs.Weights.{AreNoWeights, IsWeightedModel}
use Rattle.commonware_c.specs.declared.conflicts.ConflictView.{ConflictView}
use Rattle.commonware_c.specs.declared.weighted_conflicts.WeightedConflictView.{WeightedConflictView}

-- The first reason for which two lists of signers aren't both members that weigh a quorum, and which of the two it is
-- about: each case says that those before it don't hold.
pub data AreNoWeightedQuorums (k : ℕ) (weights one two : List ℕ) (status which : ℕ) : Type 0 where
  first_outside : status ≡ 9 → which ≡ 1 → HasOutsider (length weights) one
      → AreNoWeightedQuorums k weights one two status which
  second_outside : status ≡ 9 → which ≡ 2 → AreMembers (length weights) one → HasOutsider (length weights) two
      → AreNoWeightedQuorums k weights one two status which
  first_too_light : status ≡ 22 → which ≡ 1 → AreMembers (length weights) one → AreMembers (length weights) two
      → AreTooLight k weights one → AreNoWeightedQuorums k weights one two status which
  second_too_light : status ≡ 22 → which ≡ 2 → AreWeightedQuorum k weights one → AreMembers (length weights) two
      → AreTooLight k weights two → AreNoWeightedQuorums k weights one two status which

-- their values differ, and their signers aren't both quorums
abbrev pub LackWeightedQuorum : ℕ → List ℕ → ℕ → ℕ → List ℕ × List ℕ → List ℕ × List ℕ → Type 0
LackWeightedQuorum k weights status which one two =
    (one.0 ≢ two.0) × AreNoWeightedQuorums k weights one.1 two.1 status which

-- their values differ, members that weigh a quorum signed each, and no one else, and exactly the accused signed both
abbrev pub AccuseByWeight : ℕ → List ℕ → List ℕ → List ℕ × List ℕ → List ℕ × List ℕ → Type 0
AccuseByWeight k weights accused one two =
    (one.0 ≢ two.0) × AreWeightedQuorum k weights one.1 × AreWeightedQuorum k weights two.1
    × AreInBoth one.1 two.1 accused

-- The inputs are two certificates for different values, each signed by members that weigh a quorum at a resilience k,
-- and the accused are the members that signed both. With f the greatest weight that is safe for all weights of this
-- total they weigh all but at most 2f, so at least (k - 2)f + 1, and where k is 3 or more, at least one of them is
-- outside every set of members that weighs at most f; they are no more than the members, nor than the bytes of either
-- input.
pub record AreAccusedByWeight (k : ℕ) (weights first second accused : List ℕ) : Type 0 where
  pub model : IsWeightedModel k weights
  pub tolerance : IsWeightTolerance k (sum weights) (faulty_weight k (sum weights))
  pub both : AreTwo first second (AccuseByWeight k weights accused)
  pub members : AreMembers (length weights) accused
  pub shared : sum weights ≤ 2 * faulty_weight k (sum weights) + weight_of weights accused
  pub weigh : (k - 2) * faulty_weight k (sum weights) + 1 ≤ weight_of weights accused
  pub outlast : 3 ≤ k → LeavesOneOutsideWeight weights (faulty_weight k (sum weights)) accused
  pub most : length accused ≤ length weights
  pub most_first : length accused ≤ length first
  pub most_second : length accused ≤ length second

-- The first reason for which two inputs name no one: each case says that those before it don't hold.
pub data IsStoppedByWeight (k : ℕ) (weights first second : List ℕ) (status which number : ℕ) : Type 0 where
  no_weights : which ≡ 0 → AreNoWeights k weights status number
      → IsStoppedByWeight k weights first second status which number
  unread : IsWeightedModel k weights → AreUnread k (length weights) first second status which number
      → IsStoppedByWeight k weights first second status which number
  same_value : status ≡ 8 → which ≡ 0 → number ≡ 0 → IsWeightedModel k weights → AreTwo first second HaveSameValue
      → IsStoppedByWeight k weights first second status which number
  no_quorum : number ≡ 0 → IsWeightedModel k weights → AreTwo first second (LackWeightedQuorum k weights status which)
      → IsStoppedByWeight k weights first second status which number

-- the room is too small for the members that are accused
abbrev pub LacksRoomByWeight : ℕ → List ℕ → List ℕ → List ℕ → ℕ → ℕ → Type 0
LacksRoomByWeight k weights first second room count =
    (accused : List ℕ) × AreAccusedByWeight k weights first second accused × (count ≡ length accused) × (room < count)

-- The inputs are two certificates for different values, each signed by members that weigh a quorum at a resilience k,
-- and these are their signers.
pub record AreConflictingByWeight (k : ℕ) (weights first second : List ℕ) (one_at two_at : SignersAt) : Type 0 where
  pub model : IsWeightedModel k weights
  pub one : List ℕ × List ℕ
  pub two : List ℕ × List ℕ
  pub first_whole : IsWhole first one
  pub second_whole : IsWhole second two
  pub differ : one.0 ≢ two.0
  pub first_quorum : AreWeightedQuorum k weights one.1
  pub second_quorum : AreWeightedQuorum k weights two.1
  pub first_at : AreSignersAt one_at one.1
  pub second_at : AreSignersAt two_at two.1

-- the view without the weight
abbrev pub without_weight : WeightedConflictView → ConflictView
without_weight view = record {
  status = view.status;
  which = view.which;
  number = view.number;
  count = view.count;
}

-- The view tells how many are in both, whose indices were written to the start of the room, or had none; and what they
-- weigh, where they were written.
pub record IsWeightedViewOfBoth (weights one two : List ℕ) (view : WeightedConflictView) (old_room new_room : List ℕ) :
    Type 0 where
  pub of_both : IsViewOfBoth one two (without_weight view) old_room new_room
  pub weight_is : view.status ≡ 0 → view.weight ≡ weight_of weights (take view.count new_room)
  pub no_weight : view.status ≢ 0 → view.weight ≡ 0
