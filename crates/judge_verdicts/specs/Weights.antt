-- The weights of participants that an input lists, their numbers, and what is wrong with an input that lists none.
use Rattle.std.specs.Prelude.{◌≡◌, ℕ, ◌-◌, List, Result, Ok, Err, sum}
use Rattle.committee_weights.specs.Refusals.{AreCommitteeWeights, IsRefusedAs}
use Rattle.committee_weights.specs.Tolerance.{IsWeightTolerance, LeastSafeM}
use Rattle.committee_weights.specs.declared.weights.error.WeightsError.{WeightsError}
use Rattle.committee_weights.specs.declared.weights.error.WeightsError.TheVariants as refusals
use Rattle.judge_questions.specs.Limits.{full}
use Rattle.judge_verdicts.specs.Readings.{Reading, a_u64, list_of}
use Rattle.judge_verdicts.specs.Whole.{IsMisread, IsWhole}
use Rattle.judge_verdicts.specs.declared.weights.NoWeights.{NoWeights}
use Rattle.judge_verdicts.specs.declared.weights.NoWeights.TheVariants.{Empty, Zero, Overflow, Unread}
use Rattle.judge_verdicts.specs.declared.weights.WeightNumbers.{WeightNumbers}

-- numbers in eight bytes, one after another
abbrev pub listed_numbers : Reading
listed_numbers = list_of full a_u64

-- An allocation may fail only where reading the list isn't memory-free. Reading a list of none is, and nothing follows.
abbrev pub MayFailToAllocateToWeigh : List ℕ → Type 0
MayFailToAllocateToWeigh text = ¬ listed_numbers.MemoryFree text

-- the input lists the weights of a committee
abbrev pub AreListed : List ℕ → List ℕ → Type 0
AreListed text weights = IsWhole listed_numbers text weights × AreCommitteeWeights weights

-- the input lists numbers, which are refused as weights for this reason
abbrev pub AreRefused : List ℕ → WeightsError → Type 0
AreRefused text error = (numbers : List ℕ) × IsWhole listed_numbers text numbers × IsRefusedAs numbers error

-- why the input lists no weights of a committee: it lists no numbers, or the first place where one is 0, or the sum of
-- those up to it doesn't fit a u64; or it is no list of numbers. More than 2^32 - 1 have no encoding
abbrev pub AreNoWeights : List ℕ → NoWeights → Type 0
AreNoWeights text Empty = AreRefused text refusals.Empty
AreNoWeights text (Zero i) = AreRefused text (refusals.Zero i)
AreNoWeights text (Overflow i) = AreRefused text (refusals.Overflow i)
AreNoWeights text (Unread what) = IsMisread listed_numbers text what

-- What the weights are in all, the greatest weight of faulty participants that this total tolerates at a resilience k,
-- the quorum, which is all others, and the least weight that shares more than may be faulty with each quorum.
pub record AreWeightNumbers (k : ℕ) (weights : List ℕ) (numbers : WeightNumbers) : Type 0 where
  pub total : numbers.total ≡ sum weights
  pub tolerated : IsWeightTolerance k (sum weights) numbers.tolerated
  pub quorum : numbers.quorum ≡ sum weights - numbers.tolerated
  pub smaller_quorum : LeastSafeM (sum weights) numbers.tolerated numbers.smaller_quorum

-- the numbers of the weights that the input lists; or why it lists none
abbrev pub AreNumbersOfWeights : ℕ → List ℕ → Result WeightNumbers NoWeights → Type 0
AreNumbersOfWeights k text (Ok numbers) =
    (weights : List ℕ) × AreListed text weights × AreWeightNumbers k weights numbers
AreNumbersOfWeights k text (Err why) = AreNoWeights text why
