-- The numbers of the fault models, by counting.
use Rattle.std.specs.Prelude.{ℕ}
use Rattle.commonware_faults.specs.Subsets.{Greatest3, Greatest5, LeastM}

-- the numbers of n members: the greatest f of each model, and the least m of the second
pub record AreNumbers (n f3 f5 m : ℕ) : Type 0 where
  pub n3f1 : Greatest3 n f3
  pub n5f1 : Greatest5 n f5
  pub m_quorum : LeastM n f5 m
