-- What the C functions return for the weights of a committee, which the caller has in an array.
use Rattle.std.specs.Prelude.{◌≡◌, ℕ, ◌+◌, ◌*◌, ◌<◌, ◌≤◌, List, length, sum}
use Rattle.committee_weights.specs.Refusals.{AreCommitteeWeights, IsRefusedAs}
use Rattle.committee_weights.specs.Tolerance.{IsWeightTolerance}
use Rattle.committee_weights.specs.declared.weights.error.WeightsError.TheVariants.{Empty, TooMany, Zero, Overflow}
use Rattle.commonware_c.specs.declared.weights.WeightsView.{WeightsView}

-- there is a resilience k, and these are the weights of a committee
abbrev pub IsWeightedModel : ℕ → List ℕ → Type 0
IsWeightedModel k weights = (2 ≤ k) × AreCommitteeWeights weights

-- The first reason for which there is none: each case says that those before it don't hold. `number` is the index of
-- the weight that is 0, or with which the sum is 2 ^ 64 or more; or how many weights there are, where these are too
-- many.
pub data AreNoWeights (k : ℕ) (weights : List ℕ) (status number : ℕ) : Type 0 where
  no_model : status ≡ 13 → number ≡ 0 → k < 2 → AreNoWeights k weights status number
  no_members : status ≡ 7 → number ≡ 0 → 2 ≤ k → IsRefusedAs weights Empty → AreNoWeights k weights status number
  too_many : status ≡ 3 → number ≡ length weights → 2 ≤ k → IsRefusedAs weights TooMany
      → AreNoWeights k weights status number
  zero_weight : status ≡ 20 → 2 ≤ k → IsRefusedAs weights (Zero number) → AreNoWeights k weights status number
  overflow : status ≡ 21 → 2 ≤ k → IsRefusedAs weights (Overflow number) → AreNoWeights k weights status number

-- the view tells what the weights are in all, what faulty members may weigh together, what a quorum weighs, and the
-- least weight whose subsets share one more than that with each quorum
pub record AreNumbersOf (k : ℕ) (weights : List ℕ) (view : WeightsView) : Type 0 where
  pub model : IsWeightedModel k weights
  pub total_is : view.total ≡ sum weights
  pub tolerance : IsWeightTolerance k (sum weights) view.tolerated
  pub quorum_is : view.quorum + view.tolerated ≡ sum weights
  pub smaller_is : view.smaller_quorum ≡ 2 * view.tolerated + 1
  pub number_is : view.number ≡ 0
