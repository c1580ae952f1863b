-- The numbers of a fault model, by counting.
use Rattle.std.specs.Prelude.{◌≡◌, ℕ, ◌+◌, ◌-◌, ◌*◌, ◌<◌}
use Rattle.commonware_utils.specs.Faults.{IsFaultTolerance, LeastM, places, shared}
use Rattle.judge_verdicts.specs.declared.numbers.FaultNumbers.{FaultNumbers}
use Rattle.judge_verdicts.specs.declared.numbers.Refutation.{Refutation}

-- the greatest number of faults that n members tolerate at a resilience k, the quorum, which is all others, and the
-- least size that shares a member more than may be faulty with each quorum
pub record AreNumbers (k n : ℕ) (numbers : FaultNumbers) : Type 0 where
  pub faults : IsFaultTolerance k n numbers.faults
  pub quorum : numbers.quorum ≡ n - numbers.faults
  pub smaller_quorum : LeastM n numbers.faults numbers.smaller_quorum

-- The first and the last n - f of n positions, and how many are in both: fewer than (k - 2)f + 1, so f is too large.
pub record IsRefutation (k n f : ℕ) (r : Refutation) : Type 0 where
  pub first : (r.first.start ≡ 0) × (r.first.end ≡ n - f)
  pub second : (r.second.start ≡ f) × (r.second.end ≡ n)
  pub shared : r.shared ≡ shared (places n r.first.start r.first.end) (places n r.second.start r.second.end)
  pub needed : r.needed ≡ (k - 2) * f + 1
  pub less : r.shared < r.needed
