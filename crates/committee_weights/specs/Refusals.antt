-- Which lists of numbers are weights of a committee, and why the others aren't.
use Rattle.std.specs.Prelude.{◌≡◌, ℕ, ◌+◌, ◌^◌, ◌<◌, ◌≤◌, List, length, slice_index, sum, take}
use Rattle.committee_weights.specs.Weights.{AreWeights}
use Rattle.committee_weights.specs.declared.weights.error.WeightsError.{WeightsError}
use Rattle.committee_weights.specs.declared.weights.error.WeightsError.TheVariants.{Empty, TooMany, Zero, Overflow}

-- weights of a committee: 1 to u32::MAX of them, none is 0, and their sum fits a u64
pub record AreCommitteeWeights (weights : List ℕ) : Type 0 where
  pub are_weights : AreWeights weights
  pub few : length weights < 2 ^ 32
  pub fits : sum weights < 2 ^ 64

-- i is a place, no weight before it is 0, and the sum of those before it fits a u64
pub record AreSoundBefore (weights : List ℕ) (i : ℕ) : Type 0 where
  pub within : i < length weights
  pub positive : (k : ℕ) → k < i → 1 ≤ slice_index weights k
  pub fits : sum (take i weights) < 2 ^ 64

-- why a list is refused: none or too many; else the first place where a weight is 0 or the sum doesn't fit
abbrev pub IsRefusedAs : List ℕ → WeightsError → Type 0
IsRefusedAs weights Empty = length weights ≡ 0
IsRefusedAs weights TooMany = 2 ^ 32 ≤ length weights
IsRefusedAs weights (Zero i) = (length weights < 2 ^ 32) × AreSoundBefore weights i × (slice_index weights i ≡ 0)
IsRefusedAs weights (Overflow i) =
    (length weights < 2 ^ 32) × AreSoundBefore weights i × (2 ^ 64 ≤ sum (take (i + 1) weights))
