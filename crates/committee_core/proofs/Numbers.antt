-- The numbers of a committee of any size are those that the models return.
use Rattle.std.proofs.Common.{ℕ, ◌+◌, ◌*◌, ◌≤◌}
use Rattle.commonware_faults.specs.Counts.{n3f1_faults, n5f1_faults}
use Rattle.commonware_faults.specs.laws.ToleranceLaws.{n3f1_greatest, n5f1_greatest, n5f1_least_m}
use Rattle.committee_core.specs.Numbers.{AreNumbers}

pub are_numbers : (n : ℕ) → 1 ≤ n → AreNumbers n (n3f1_faults n) (n5f1_faults n) (2 * n5f1_faults n + 1)
are_numbers n some =
    record { n3f1 = n3f1_greatest n some; n5f1 = n5f1_greatest n some; m_quorum = n5f1_least_m n some }
