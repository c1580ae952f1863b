-- What the signers of both of two lists weigh, where each list weighs at least a number of its own.
use Rattle.std.specs.Prelude.{ℕ, ◌+◌, ◌<◌, ◌≤◌, List, sum}
use Rattle.committee_weights.specs.Members.{weight_of, LeavesOneOutsideWeight}

-- these weigh less than a least weight
abbrev pub AreLighter : ℕ → List ℕ → List ℕ → Type 0
AreLighter least weights signers = weight_of weights signers < least

-- The signers of both of two lists, of which one weighs at least a and the other at least b: together they weigh at
-- least a + b - W, where W is what all weigh; and where a + b is more than W + f, any that weigh at most f leave one of
-- them outside.
pub record AreSharedByWeight (weights : List ℕ) (a b : ℕ) (both : List ℕ) : Type 0 where
  pub heavy : a + b ≤ sum weights + weight_of weights both
  pub leaves : (f : ℕ) → sum weights + f < a + b → LeavesOneOutsideWeight weights f both
