-- Members of a committee whose participants have weights, as the list of their indices, and what they weigh.
use Rattle.std.specs.Prelude.{ℕ, ◌-◌, ◌/◌, ◌<◌, ◌≤◌, Bool, List, Contains, length, sum}
use Rattle.commonware_faults.specs.Subsets.{IsOutside}
use Rattle.commonware_ordered.specs.Voters.{members_among}
use Rattle.committee_certificates.specs.Signers.{AreMembers}
use Rattle.committee_weights.specs.Weights.{weight, IsSubset}

-- what those that are listed weigh
abbrev pub weight_of : List ℕ → List ℕ → ℕ
weight_of weights listed = weight weights (members_among (length weights) listed)

-- what faulty participants may weigh at a resilience k, of a total
abbrev pub faulty_weight : ℕ → ℕ → ℕ
faulty_weight k total = (total - 1) / k

-- what a quorum weighs: all but what may be faulty
abbrev pub quorum_weight : ℕ → ℕ → ℕ
quorum_weight k total = total - faulty_weight k total

-- these weigh less than a quorum
abbrev pub AreTooLight : ℕ → List ℕ → List ℕ → Type 0
AreTooLight k weights signers = weight_of weights signers < quorum_weight k (sum weights)

-- members that weigh a quorum or more, and no one else
abbrev pub AreWeightedQuorum : ℕ → List ℕ → List ℕ → Type 0
AreWeightedQuorum k weights signers =
    AreMembers (length weights) signers × (quorum_weight k (sum weights) ≤ weight_of weights signers)

-- Every subset of the participants that weighs at most f leaves some of these signers outside: a subset of positions,
-- and as well participants that are listed.
pub record LeavesOneOutsideWeight (weights : List ℕ) (f : ℕ) (signers : List ℕ) : Type 0 where
  pub of_positions : (faulty : List Bool) → IsSubset weights faulty → weight weights faulty ≤ f
      → (index : ℕ) × Contains signers index × IsOutside faulty index
  pub of_participants : (faulty : List ℕ) → weight_of weights faulty ≤ f
      → (index : ℕ) × Contains signers index × (¬ Contains faulty index)
