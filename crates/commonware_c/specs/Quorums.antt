-- The sizes of quorums at a resilience k, whose faults are the f of n >= kf + 1.
use Rattle.std.specs.Prelude.{◌≡◌, ℕ, ◌+◌, ◌*◌}
use Rattle.commonware_faults.specs.Subsets.{LeastM}
use Rattle.commonware_faults.specs.Tolerance.{IsFaultTolerance}

-- q is the size of a quorum: all participants but as many as may be faulty
abbrev pub IsQuorumSize : ℕ → ℕ → ℕ → Type 0
IsQuorumSize k n q = (f : ℕ) × IsFaultTolerance k n f × (q + f ≡ n)

-- m is the size of a smaller quorum: the least whose subsets share f + 1 participants with each quorum
abbrev pub IsSmallerQuorumSize : ℕ → ℕ → ℕ → Type 0
IsSmallerQuorumSize k n m = (f : ℕ) × IsFaultTolerance k n f × LeastM n f m × (m ≡ 2 * f + 1)
