-- The lines that are answered without an allocation.
use Rattle.std.specs.Prelude.{ℕ, ◌<◌, List, Bool, length}
use Rattle.std.specs.List.{AllByRecursion}
use Rattle.std.specs.Str.Lines.{lines}
use Rattle.judge_questions.specs.Questions.{IsQuestion}
use Rattle.judge_questions.specs.Tasks.{AsksForConflict, AsksForPosition, AsksForQuorum, AsksForWeightedConflict}
use Rattle.judge_questions.specs.Tasks.{AsksForWeightedQuorum, AsksForWeights, AsksToBuild, both_verb, build_verb}
use Rattle.judge_questions.specs.Tasks.{weighted_both_verb}
use Rattle.judge_questions.specs.Words.{AreShort, words_of}
use Rattle.judge_questions.specs.declared.collection.Collection.{Collection}
use Rattle.judge_questions.specs.declared.collection.SetForm.{SetForm}
use Rattle.judge_questions.specs.declared.form.Form.{Form}
use Rattle.judge_questions.specs.declared.limits.Limits.{Limits}
use Rattle.judge_questions.specs.declared.verb.Verb.TheVariants.{Position, Quorum, WeightedQuorum, Weights}
use Rattle.judge_verdicts.specs.Builds.{MayFailToAllocateToBuild}
use Rattle.judge_verdicts.specs.Collections.{MayFailToAllocateToFindIn, lists_of}
use Rattle.judge_verdicts.specs.Conflicts.{MayFailToAllocateToJudgeBoth}
use Rattle.judge_verdicts.specs.Quorums.{MayFailToAllocateToJudge}
use Rattle.judge_verdicts.specs.Readings.{reading_of}
use Rattle.judge_verdicts.specs.Weights.{MayFailToAllocateToWeigh}
use Rattle.judge_core.specs.Answered.{AsksBy, asked_from}

-- no word of the line is long, and where it asks for a reading, that is memory-free
pub record IsReadingMemoryFree (line : List ℕ) : Type 0 where
  pub short : AreShort (words_of line)
  pub reading : (form : Form) (limits : Limits) (text : List ℕ) → IsQuestion line form limits text
      → (reading_of form limits).MemoryFree text

-- No allocation fails as the line is answered: none of its words is long; reading what it asks of, a set, a certificate
-- or weights among them, is memory-free; and nothing is built.
pub record IsLineMemoryFree (line : List ℕ) : Type 0 where
  pub readings : IsReadingMemoryFree line
  pub builds : (unique : Bool) (collection : Collection) (text : List ℕ)
      → AsksBy line (build_verb unique) (λ words. AsksToBuild words collection text)
      → ¬ MayFailToAllocateToBuild (lists_of collection) text
  pub positions : (set : SetForm) (text item : List ℕ)
      → AsksBy line Position (λ words. AsksForPosition words set text item) → ¬ MayFailToAllocateToFindIn set text item
  pub quorums : (k n : ℕ) (text : List ℕ) → AsksBy line Quorum (λ words. AsksForQuorum words k n text)
      → ¬ MayFailToAllocateToJudge text
  pub conflicts : (by_slot : Bool) (k n : ℕ) (one other : List ℕ)
      → AsksBy line (both_verb by_slot) (λ words. AsksForConflict words k n one other)
      → ¬ MayFailToAllocateToJudgeBoth one other
  pub weights : (k : ℕ) (list : List ℕ) → AsksBy line Weights (λ words. AsksForWeights words k list)
      → ¬ MayFailToAllocateToWeigh list
  pub weighted_quorums : (k : ℕ) (list text : List ℕ)
      → AsksBy line WeightedQuorum (λ words. AsksForWeightedQuorum words k list text)
      → ¬ MayFailToAllocateToWeigh list
  pub weighted_conflicts : (by_slot : Bool) (k : ℕ) (list one other : List ℕ)
      → AsksBy line (weighted_both_verb by_slot) (λ words. AsksForWeightedConflict words k list one other)
      → ¬ MayFailToAllocateToWeigh list

-- each of the numbered lines has fewer than 4096 bytes and is answered without an allocation
abbrev pub AreMemoryFree : List (ℕ × List ℕ) → Type 0
AreMemoryFree =
    AllByRecursion (λ (asked : ℕ × List ℕ). (length asked.1 < 4096) × IsLineMemoryFree asked.1)

-- so is each line of the input that asks for an answer
abbrev pub IsTextMemoryFree : List ℕ → Type 0
IsTextMemoryFree text = AreMemoryFree (asked_from 1 (lines text))
