-- What it means that f is the weight of faulty participants that a total weight tolerates at a resilience k.
use Rattle.std.specs.Prelude.{◌≡◌, ℕ, ◌+◌, ◌-◌, ◌*◌, ◌<◌, ◌≤◌, List, length, sum, replicate}
use Rattle.commonware_faults.specs.Counts.{GreatestFit}
use Rattle.committee_weights.specs.Weights.{AreWeights, IsSafe, WeightedMeetsOutside, WeightedOverlapOf}

-- f is the greatest number that is safe for all weights of this total
pub record GreatestSafe (k total f : ℕ) : Type 0 where
  pub safe : (weights : List ℕ) → sum weights ≡ total → IsSafe k weights f
  pub greatest : (g : ℕ) → ((weights : List ℕ) → AreWeights weights → sum weights ≡ total → IsSafe k weights g) → g ≤ f

-- f is the greatest number for which, for all weights of this total, any two subsets that weigh all but at most f share
-- a participant outside any subset that weighs at most f
pub record GreatestMeeting (total f : ℕ) : Type 0 where
  pub meets : (weights : List ℕ) → sum weights ≡ total → WeightedMeetsOutside weights (total - f) f
  pub greatest : (g : ℕ)
      → ((weights : List ℕ) → AreWeights weights → sum weights ≡ total → WeightedMeetsOutside weights (total - g) g)
      → g ≤ f

-- m is the least weight whose subsets share at least f + 1 with each that weighs all but at most f, for all weights of
-- this total
pub record LeastSafeM (total f m : ℕ) : Type 0 where
  pub at_most : m ≤ total
  pub overlaps : (weights : List ℕ) → sum weights ≡ total → WeightedOverlapOf weights (total - f) m (f + 1)
  pub least : (j : ℕ)
      → ((weights : List ℕ) → AreWeights weights → sum weights ≡ total
      → WeightedOverlapOf weights (total - f) j (f + 1))
      → m ≤ j

-- weights of n participants with this total, for which g isn't safe
pub record IsRefutation (k total g n : ℕ) (weights : List ℕ) : Type 0 where
  pub are_weights : AreWeights weights
  pub participants : length weights ≡ n
  pub of_total : sum weights ≡ total
  pub unsafe : ¬ IsSafe k weights g

-- everything that f = (total - 1) / k is by the weights of subsets
pub record IsWeightTolerance (k total f : ℕ) : Type 0 where
  pub fits : GreatestFit k total f
  pub greatest : GreatestSafe k total f
  pub only : (g : ℕ) → GreatestSafe k total g → g ≡ f
  pub refuted : (g n : ℕ) → f < g → 3 ≤ n → n ≤ total → (weights : List ℕ) × IsRefutation k total g n weights
  pub refuted_by_ones : (g : ℕ) → f < g → ¬ IsSafe k (replicate total 1) g
  pub least_shared : (k - 2) * f + 1 ≤ total - 2 * f
  pub meets : 3 ≤ k → (weights : List ℕ) → sum weights ≡ total → WeightedMeetsOutside weights (total - f) f
  pub least_m : LeastSafeM total f (2 * f + 1)
