-- What it means that f is the number of faults that n participants tolerate at a resilience k.
use Rattle.std.specs.Prelude.{ℕ, ◌+◌, ◌-◌, ◌*◌, ◌<◌, ◌≤◌, ◌≡◌}
use Rattle.commonware_faults.specs.Counts.{GreatestFit}
use Rattle.commonware_faults.specs.Subsets.{Greatest, LeastM, MeetsOutside, OverlapAtLeast, places, shared}

-- everything that f = (n - 1) / k is by counting
pub record IsFaultTolerance (k n f : ℕ) : Type 0 where
  pub fits : GreatestFit k n f
  pub greatest : Greatest k n f
  pub only : (g : ℕ) → Greatest k n g → g ≡ f
  pub refuted : (g : ℕ) → f < g → g ≤ n → shared (places n 0 (n - g)) (places n g n) < (k - 2) * g + 1
  pub least_shared : (k - 2) * f + 1 ≤ n - 2 * f
  pub shares : OverlapAtLeast n (n - f) (n - f) ((k - 2) * f + 1)
  pub meets : 3 ≤ k → MeetsOutside n (n - f) f
  pub least_m : LeastM n f (2 * f + 1)
