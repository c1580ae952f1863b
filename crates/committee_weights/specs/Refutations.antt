-- Weights that refute a number, with two subsets that share too little.
use Rattle.std.specs.Prelude.{◌≡◌, ℕ, ◌+◌, ◌-◌, ◌*◌, ◌<◌, ◌≤◌, ◌++◌, Bool, List, [], ◌∷◌, length, replicate, sum}
use Rattle.committee_weights.specs.Refusals.{AreCommitteeWeights}
use Rattle.committee_weights.specs.Weights.{weight, shared_weight, IsSubset}

-- weights of n participants with this total, and two subsets of them that weigh all but at most g, and share less than
-- (k - 2)g + 1: so g isn't safe for them
pub record IsRefutedBy (k total g n : ℕ) (weights : List ℕ) (one other : List Bool) : Type 0 where
  pub are_weights : AreCommitteeWeights weights
  pub participants : length weights ≡ n
  pub of_total : sum weights ≡ total
  pub one_is : IsSubset weights one
  pub other_is : IsSubset weights other
  pub one_weighs : total - g ≤ weight weights one
  pub other_weighs : total - g ≤ weight weights other
  pub too_little : shared_weight weights one other < (k - 2) * g + 1

-- some participants that weigh so much together: all but the last weigh 1
abbrev pub group : ℕ → ℕ → List ℕ
group count weighs = replicate (count - 1) 1 ++ (weighs - (count - 1)) ∷ []

-- three groups, one after another
abbrev pub groups : ℕ → ℕ → ℕ → ℕ → ℕ → ℕ → List ℕ
groups a x b y c z = (group a x ++ group b y) ++ group c z

-- the subset of the groups that are in it, of as many participants
abbrev pub group_subset : ℕ → Bool → ℕ → Bool → ℕ → Bool → List Bool
group_subset a x b y c z = (replicate a x ++ replicate b y) ++ replicate c z
