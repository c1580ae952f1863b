-- The greatest number that is safe for one list of weights.
use Rattle.std.specs.Prelude.{ℕ, ◌+◌, ◌-◌, ◌*◌, ◌≤◌, ◌⊎◌, List, [], ◌∷◌}
use Rattle.committee_weights.specs.Weights.{IsSafe}

-- f is the greatest number that is safe for these weights
pub record IsGreatestSafe (k : ℕ) (weights : List ℕ) (f : ℕ) : Type 0 where
  pub safe : IsSafe k weights f
  pub greatest : (g : ℕ) → IsSafe k weights g → g ≤ f

-- those in the first subset alone weigh at most f, and so do those in the other alone; those in both at most (k - 2)f
abbrev pub AreLight : ℕ → ℕ → ℕ → ℕ → ℕ → Type 0
AreLight k one other both f = (one ≤ f) × (other ≤ f) × (both ≤ (k - 2) * f)

-- each of some participants can be put into one of these three, beside those that are there, so that they are light
abbrev pub IsLightFrom : ℕ → List ℕ → ℕ → ℕ → ℕ → ℕ → Type 0
IsLightFrom k [] one other both f = AreLight k one other both f
IsLightFrom k (w ∷ ws) one other both f =
    IsLightFrom k ws (one + w) other both f ⊎ IsLightFrom k ws one (other + w) both f
    ⊎ IsLightFrom k ws one other (both + w) f
