-- The weights of participants, and what subsets of them weigh. A subset is a list of truth values, one for each weight.
use Rattle.std.specs.Prelude.{◌≡◌, ℕ, ◌+◌, ◌-◌, ◌*◌, ◌≤◌, Bool, true, false, List, [], ◌∷◌, All, length, sum}
use Rattle.commonware_faults.specs.Subsets.{IsIn, IsOutside}

-- weights of participants: at least one, and none is 0
pub record AreWeights (weights : List ℕ) : Type 0 where
  pub some : 1 ≤ length weights
  pub positive : All (λ w. 1 ≤ w) weights

-- what a subset weighs: the weights at the places that are true
abbrev pub weight : List ℕ → List Bool → ℕ
weight [] subset = 0
weight (w ∷ ws) [] = 0
weight (w ∷ ws) (true ∷ rest) = w + weight ws rest
weight (w ∷ ws) (false ∷ rest) = weight ws rest

-- what the places that are true in both weigh
abbrev pub shared_weight : List ℕ → List Bool → List Bool → ℕ
shared_weight [] first second = 0
shared_weight (w ∷ ws) [] second = 0
shared_weight (w ∷ ws) (x ∷ rest) [] = 0
shared_weight (w ∷ ws) (true ∷ rest) (true ∷ others) = w + shared_weight ws rest others
shared_weight (w ∷ ws) (true ∷ rest) (false ∷ others) = shared_weight ws rest others
shared_weight (w ∷ ws) (false ∷ rest) (y ∷ others) = shared_weight ws rest others

-- a subset of these participants
abbrev pub IsSubset : List ℕ → List Bool → Type 0
IsSubset weights subset = length subset ≡ length weights

-- any two subsets that each weigh at least q share participants that weigh at least s
pub record WeightedOverlap (weights : List ℕ) (q s : ℕ) : Type 0 where
  pub shares : (first second : List Bool) → IsSubset weights first → IsSubset weights second
      → q ≤ weight weights first → q ≤ weight weights second → s ≤ shared_weight weights first second

-- any subset that weighs at least a and any that weighs at least b share participants that weigh at least s
pub record WeightedOverlapOf (weights : List ℕ) (a b s : ℕ) : Type 0 where
  pub shares : (first second : List Bool) → IsSubset weights first → IsSubset weights second
      → a ≤ weight weights first → b ≤ weight weights second → s ≤ shared_weight weights first second

-- any two subsets that each weigh at least q share a participant outside any subset that weighs at most f
pub record WeightedMeetsOutside (weights : List ℕ) (q f : ℕ) : Type 0 where
  pub meets : (first second faulty : List Bool) → IsSubset weights first → IsSubset weights second
      → IsSubset weights faulty → q ≤ weight weights first → q ≤ weight weights second → weight weights faulty ≤ f
      → (p : ℕ) × IsIn first p × IsIn second p × IsOutside faulty p

-- any three subsets that each weigh at most f leave a participant outside all three
pub record NoThreeCover (weights : List ℕ) (f : ℕ) : Type 0 where
  pub leave : (first second third : List Bool) → IsSubset weights first → IsSubset weights second
      → IsSubset weights third → weight weights first ≤ f → weight weights second ≤ f → weight weights third ≤ f
      → (p : ℕ) × IsOutside first p × IsOutside second p × IsOutside third p

-- f is safe for these weights: any two subsets that weigh all but at most f share at least (k - 2)f + 1, which is 1 at
-- a k of 2, f + 1 at 3, 3f + 1 at 5
abbrev pub IsSafe : ℕ → List ℕ → ℕ → Type 0
IsSafe k weights f = WeightedOverlap weights (sum weights - f) ((k - 2) * f + 1)
