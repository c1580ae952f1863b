-- What two lists of signers share, each of which has a least number of signers of its own.
use Rattle.std.specs.Prelude.{ℕ, ◌+◌, ◌<◌, ◌≤◌, List, length}
use Rattle.committee_certificates.specs.Signers.{LeavesOneOutside}

-- fewer than a least number signed
abbrev pub AreFewer : ℕ → List ℕ → Type 0
AreFewer least signers = length signers < least

-- The signers of both of two lists of n members, of which one has at least a and the other at least b: they are at
-- least a + b - n, and where a + b is more than n + f, any f members leave one of them outside.
pub record AreShared (n a b : ℕ) (both : List ℕ) : Type 0 where
  pub many : a + b ≤ n + length both
  pub leaves : (f : ℕ) → n + f < a + b → LeavesOneOutside n f both
