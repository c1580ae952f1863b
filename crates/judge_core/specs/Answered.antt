-- The answer to a line, and the bytes that say it.
use Rattle.std.specs.Prelude.{◌≡◌, ℕ, ◌+◌, List, [], ◌∷◌, ◌++◌, Bool, true, false, ◌==◌, ◌||◌, not, codes}
use Rattle.std.specs.Prelude.{if◌then◌else◌}
use Rattle.std.specs.Prelude.{Option, Result, length, slice_index}
use Rattle.std.specs.Fmt.{decimal}
use Rattle.std.specs.List.{AllByRecursion, AllZip, flat_map, list_all}
use Rattle.std.specs.Str.Lines.{lines}
use Rattle.judge_questions.specs.Questions.{IsQuestion, IsUnreadable}
use Rattle.judge_questions.specs.declared.form.Form.{Form}
use Rattle.judge_questions.specs.declared.limits.Limits.{Limits}
use Rattle.judge_questions.specs.declared.question.Unreadable.TheVariants.{Bytes, Model, Name, Number, Ranges}
use Rattle.judge_questions.specs.Tasks.{AsksForConflict, AsksForFaults, AsksForPosition, AsksForQuorum, AsksToBuild}
use Rattle.judge_questions.specs.Tasks.{AsksForWeightedConflict, AsksForWeightedQuorum, AsksForWeights, AsksToRefute}
use Rattle.judge_questions.specs.Tasks.{HasNoVerb, IsUnreadableTask, build_verb, verb_name}
use Rattle.judge_questions.specs.Words.{words_of}
use Rattle.judge_questions.specs.declared.collection.Collection.{Collection}
use Rattle.judge_questions.specs.declared.collection.SetForm.{SetForm}
use Rattle.judge_questions.specs.declared.question.Unreadable.{Unreadable}
use Rattle.judge_questions.specs.declared.verb.Verb.{Verb}
use Rattle.judge_questions.specs.declared.verb.Verb.TheVariants.{Conflict, Equivocation, Faults, Position, Quorum}
use Rattle.judge_questions.specs.declared.verb.Verb.TheVariants.{Refute, WeightedConflict, WeightedEquivocation}
use Rattle.judge_questions.specs.declared.verb.Verb.TheVariants.{WeightedQuorum, Weights}
use Rattle.judge_verdicts.specs.Collections.{IsBuilt, IsFoundIn}
use Rattle.judge_verdicts.specs.Conflicts.{IsConflict}
use Rattle.judge_verdicts.specs.Equivocations.{IsEquivocation}
use Rattle.judge_verdicts.specs.Numbers.{AreNumbers}
use Rattle.judge_verdicts.specs.Quorums.{Certified, IsChecked}
use Rattle.judge_verdicts.specs.Readings.{IsVerdict, reading_of}
use Rattle.judge_verdicts.specs.WeightedConflicts.{IsWeightedConflict, Weighed}
use Rattle.judge_verdicts.specs.WeightedEquivocations.{IsWeightedEquivocation}
use Rattle.judge_verdicts.specs.WeightedQuorums.{IsWeightChecked, WeightCertified}
use Rattle.judge_verdicts.specs.Weights.{AreNumbersOfWeights}
use Rattle.judge_core.specs.declared.answer.Answer.{Answer}
use Rattle.judge_core.specs.declared.answer.Answer.TheVariants.{Judged, Unread}
use Rattle.judge_verdicts.specs.declared.conflict.NoConflict.{NoConflict}
use Rattle.judge_verdicts.specs.declared.equivocation.NoEquivocation.{NoEquivocation}
use Rattle.judge_verdicts.specs.declared.numbers.FaultNumbers.{FaultNumbers}
use Rattle.judge_verdicts.specs.declared.numbers.Refutation.{Refutation}
use Rattle.judge_verdicts.specs.declared.places.Found.{Found}
use Rattle.judge_verdicts.specs.declared.quorum.NoQuorum.{NoQuorum}
use Rattle.judge_verdicts.specs.declared.sets.NotBuilt.{NotBuilt}
use Rattle.judge_verdicts.specs.declared.verdict.Verdict.TheVariants.{Accepted, Refused}
use Rattle.judge_verdicts.specs.declared.weighted_conflict.NoWeightedConflict.{NoWeightedConflict}
use Rattle.judge_verdicts.specs.declared.weighted_equivocation.NoWeightedEquivocation.{NoWeightedEquivocation}
use Rattle.judge_verdicts.specs.declared.weighted_quorum.NoWeightedQuorum.{NoWeightedQuorum}
use Rattle.judge_verdicts.specs.declared.weights.NoWeights.{NoWeights}
use Rattle.judge_verdicts.specs.declared.weights.WeightNumbers.{WeightNumbers}
use Rattle.judge_core.specs.Faults.{error_text}
use Rattle.judge_core.specs.Tasks.{IsRefuted, built_line, conflict_line, equivocation_line, found_line, numbers_line}
use Rattle.judge_core.specs.Tasks.{quorum_line, refuted_line}
use Rattle.judge_core.specs.Weighted.{weighted_conflict_line, weighted_equivocation_line, weighted_quorum_line}
use Rattle.judge_core.specs.Weighted.{weights_line}

-- the answer is right: the line asks a question and the verdict on its input is right, or what is named of it can't be
-- read
abbrev pub IsAnswer : List ℕ → Answer → Type 0
IsAnswer line (Judged verdict) =
    (form : Form) × (limits : Limits) × (text : List ℕ) × IsQuestion line form limits text
    × IsVerdict (reading_of form limits) text verdict
IsAnswer line (Unread what) = IsUnreadable line what

-- whether the answer is a verdict
abbrev pub is_judged : Answer → Bool
is_judged (Judged verdict) = true
is_judged (Unread what) = false

-- whether a line asks for an answer: it isn't empty, and doesn't begin with `#`
abbrev pub is_asked : List ℕ → Bool
is_asked line = not (length line == 0 || slice_index line 0 == 35)

-- what says that this of a line can't be read
abbrev pub unreadable_text : Unreadable → List ℕ
unreadable_text Name = codes "unreadable type"
unreadable_text Ranges = codes "unreadable ranges"
unreadable_text Bytes = codes "unreadable bytes"
unreadable_text Model = codes "unreadable model"
unreadable_text Number = codes "unreadable number"

-- the line that says an answer
unfoldable pub answer_line : Answer → List ℕ
answer_line (Judged (Accepted items left)) =
    codes "accepted " ++ (decimal items ++ (codes " " ++ (decimal left ++ (10 ∷ []))))
answer_line (Judged (Refused error)) = error_text error ++ (10 ∷ [])
answer_line (Unread what) = unreadable_text what ++ (10 ∷ [])

-- what is said of a line, and whether it is a verdict
pub record Told : Type 0 where
  pub text : List ℕ
  pub judged : Bool

-- what is told by an answer to a line that asks for a reading
abbrev pub told_by : Answer → Told
told_by answer = record { text = answer_line answer; judged = is_judged answer }

-- a line that asks by the verb, followed by words of which Asks holds
abbrev pub AsksBy : List ℕ → Verb → (List (List ℕ) → Type 0) → Type 0
AsksBy line verb Asks = (words : List (List ℕ)) × (words_of line ≡ verb_name verb ∷ words) × Asks words

-- What is told of a line is right: of one that begins with a verb, what it asks for, or what of it can't be read; of
-- every other one, an answer is told that is right.
pub data IsTold (line : List ℕ) (told : Told) : Type 0 where
  built : (unique : Bool) (collection : Collection) (text : List ℕ) (made : Result (List ℕ) NotBuilt)
      → AsksBy line (build_verb unique) (λ words. AsksToBuild words collection text)
      → IsBuilt collection unique text made → told.text ≡ built_line made → told.judged ≡ true → IsTold line told
  found : (set : SetForm) (text item : List ℕ) (place : Found)
      → AsksBy line Position (λ words. AsksForPosition words set text item)
      → IsFoundIn set text item place → told.text ≡ found_line place → told.judged ≡ true → IsTold line told
  counted : (k n : ℕ) (numbers : FaultNumbers) → AsksBy line Faults (λ words. AsksForFaults words k n)
      → AreNumbers k n numbers → told.text ≡ numbers_line numbers → told.judged ≡ true → IsTold line told
  refuted : (k n f : ℕ) (why : Option Refutation) → AsksBy line Refute (λ words. AsksToRefute words k n f)
      → IsRefuted k n f why → told.text ≡ refuted_line why → told.judged ≡ true → IsTold line told
  checked : (k n : ℕ) (text : List ℕ) (found : Result Certified NoQuorum)
      → AsksBy line Quorum (λ words. AsksForQuorum words k n text)
      → IsChecked k n text found → told.text ≡ quorum_line found → told.judged ≡ true → IsTold line told
  named : (k n : ℕ) (one other : List ℕ) (members : Result (List ℕ) NoConflict)
      → AsksBy line Conflict (λ words. AsksForConflict words k n one other)
      → IsConflict k n one other members → told.text ≡ conflict_line members → told.judged ≡ true → IsTold line told
  accused : (k n : ℕ) (one other : List ℕ) (members : Result (List ℕ) NoEquivocation)
      → AsksBy line Equivocation (λ words. AsksForConflict words k n one other)
      → IsEquivocation k n one other members → told.text ≡ equivocation_line members → told.judged ≡ true
      → IsTold line told
  weighed : (k : ℕ) (list : List ℕ) (numbers : Result WeightNumbers NoWeights)
      → AsksBy line Weights (λ words. AsksForWeights words k list)
      → AreNumbersOfWeights k list numbers → told.text ≡ weights_line numbers → told.judged ≡ true
      → IsTold line told
  weight_checked : (k : ℕ) (list text : List ℕ) (found : Result WeightCertified NoWeightedQuorum)
      → AsksBy line WeightedQuorum (λ words. AsksForWeightedQuorum words k list text)
      → IsWeightChecked k list text found → told.text ≡ weighted_quorum_line found → told.judged ≡ true
      → IsTold line told
  weight_named : (k : ℕ) (list one other : List ℕ) (members : Result Weighed NoWeightedConflict)
      → AsksBy line WeightedConflict (λ words. AsksForWeightedConflict words k list one other)
      → IsWeightedConflict k list one other members → told.text ≡ weighted_conflict_line members
      → told.judged ≡ true → IsTold line told
  weight_accused : (k : ℕ) (list one other : List ℕ) (members : Result Weighed NoWeightedEquivocation)
      → AsksBy line WeightedEquivocation (λ words. AsksForWeightedConflict words k list one other)
      → IsWeightedEquivocation k list one other members → told.text ≡ weighted_equivocation_line members
      → told.judged ≡ true → IsTold line told
  unread : (what : Unreadable) → IsUnreadableTask line what → told.text ≡ answer_line (Unread what)
      → told.judged ≡ false → IsTold line told
  answered : HasNoVerb line → (answer : Answer) → IsAnswer line answer → told.text ≡ answer_line answer
      → told.judged ≡ is_judged answer → IsTold line told

-- the lines that ask for an answer, each with its number, where that of the first line is n
abbrev pub asked_from : ℕ → List (List ℕ) → List (ℕ × List ℕ)
asked_from n [] = []
asked_from n (line ∷ rest) =
    if is_asked line then (n, line) ∷ asked_from (n + 1) rest else asked_from (n + 1) rest

-- what is said of a line on standard output, which begins with its number where lines are numbered
abbrev pub said_of : Bool → ℕ × Told → List ℕ
said_of true told = decimal told.0 ++ (codes ": " ++ told.1.text)
said_of false told = told.1.text

-- what is noted of a line on standard error: the number of one that can't be read
abbrev pub note_of : ℕ × Told → List ℕ
note_of told = if told.1.judged then [] else codes "line " ++ (decimal told.0 ++ (codes ": " ++ told.1.text))

-- what was noted are the notes of these lines, of each a prefix, which is the whole where standard error takes it
abbrev pub AreNoted : List (ℕ × Told) → List ℕ → Type 0
AreNoted [] noted = noted ≡ []
AreNoted (told ∷ rest) noted =
    (prefix : List ℕ) × (after : List ℕ) × (back : List ℕ) × (noted ≡ prefix ++ after) × (note_of told ≡ prefix ++ back)
    × AreNoted rest after

-- What was said answers each of the numbered lines, in order, each answer right; what was noted names those that can't
-- be read; and judged tells whether all answers are verdicts.
pub record AreAnswered (numbered : Bool) (asked : List (ℕ × List ℕ)) (said noted : List ℕ) (judged : Bool)
    : Type 0 where
  pub answers : List (ℕ × Told)
  pub right : AllZip (λ (line : ℕ × List ℕ) (told : ℕ × Told). (told.0 ≡ line.0) × IsTold line.1 told.1) asked answers
  pub text : said ≡ flat_map (said_of numbered) answers
  pub notes : AreNoted answers noted
  pub verdicts : judged ≡ list_all (λ (told : ℕ × Told). told.1.judged) answers

-- After the prefix of a line, of number n, came more of the input; its whole lines were answered, and the prefix of a
-- line, of number m, is left.
abbrev pub Continues : Bool → ℕ → List ℕ → List ℕ → ℕ → List ℕ → List ℕ → List ℕ → Bool → Type 0
Continues numbered n pending more m back said noted judged =
    (done : List (ℕ × List ℕ))
    × ((rest : List ℕ) → asked_from n (lines (pending ++ (more ++ rest))) ≡ done ++ asked_from m (lines (back ++ rest)))
    × AreAnswered numbered done said noted judged

-- no line feed is in the bytes
abbrev pub HasNoFeed : List ℕ → Type 0
HasNoFeed = AllByRecursion (λ b. (b == 10) ≡ false)
