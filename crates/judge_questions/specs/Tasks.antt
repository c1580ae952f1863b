-- A line that asks by a verb for something other than a reading, and what is wrong with one that doesn't.
use Rattle.std.specs.Prelude.{◌≡◌, ◌≢◌, ◌⊎◌, ℕ, ◌<◌, ◌≤◌, ◌^◌, List, [], ◌∷◌, ◌++◌, Bool, true, false, Some, codes}
use Rattle.judge_questions.specs.Collections.{collection_of, set_form_of}
use Rattle.judge_questions.specs.Forms.{name_of}
use Rattle.judge_questions.specs.Hex.{IsText}
use Rattle.judge_questions.specs.Ranges.{IsNumber}
use Rattle.judge_questions.specs.Words.{words_of}
use Rattle.judge_questions.specs.declared.collection.Collection.{Collection}
use Rattle.judge_questions.specs.declared.collection.SetForm.{SetForm}
use Rattle.judge_questions.specs.declared.form.Form.{Form}
use Rattle.judge_questions.specs.declared.question.Unreadable.{Unreadable}
use Rattle.judge_questions.specs.declared.question.Unreadable.TheVariants.{Name, Bytes, Model, Number}
use Rattle.judge_questions.specs.declared.task.Task.{Task}
use Rattle.judge_questions.specs.declared.task.Task.TheVariants as tasks
use Rattle.judge_questions.specs.declared.weighted.WeightedTask.TheVariants as weighted
use Rattle.judge_questions.specs.declared.verb.Verb.{Verb}
use Rattle.judge_questions.specs.declared.verb.Verb.TheVariants.{Build, BuildUnique, Position, Faults, Refute}
use Rattle.judge_questions.specs.declared.verb.Verb.TheVariants.{Quorum, Conflict, Equivocation}
use Rattle.judge_questions.specs.declared.verb.Verb.TheVariants.{Weights, WeightedQuorum, WeightedConflict}
use Rattle.judge_questions.specs.declared.verb.Verb.TheVariants.{WeightedEquivocation}

-- the word by which a line asks
abbrev pub verb_name : Verb → List ℕ
verb_name Build = codes "build"
verb_name BuildUnique = codes "build-unique"
verb_name Position = codes "position"
verb_name Faults = codes "faults"
verb_name Refute = codes "refute"
verb_name Quorum = codes "quorum"
verb_name Conflict = codes "conflict"
verb_name Equivocation = codes "equivocation"
verb_name Weights = codes "weights"
verb_name WeightedQuorum = codes "weighted-quorum"
verb_name WeightedConflict = codes "weighted-conflict"
verb_name WeightedEquivocation = codes "weighted-equivocation"

-- the verb that asks to build, where no two may be equal or where equal ones count once
abbrev pub build_verb : Bool → Verb
build_verb true = BuildUnique
build_verb false = Build

-- the verb that asks who signed both of two certificates: for one slot, or for any values
abbrev pub both_verb : Bool → Verb
both_verb true = Equivocation
both_verb false = Conflict

-- the same where quorums are by weight
abbrev pub weighted_both_verb : Bool → Verb
weighted_both_verb true = WeightedEquivocation
weighted_both_verb false = WeightedConflict

-- the word names the fault model of a resilience k: `n3f1`, `n5f1`, or `k=` and a number from 2 to 4294967295
abbrev pub IsModel : List ℕ → ℕ → Type 0
IsModel word k =
    ((word ≡ codes "n3f1") × (k ≡ 3)) ⊎ (((word ≡ codes "n5f1") × (k ≡ 5))
    ⊎ ((digits : List ℕ) × (word ≡ codes "k=" ++ digits) × IsNumber digits k × (2 ≤ k) × (k < 2 ^ 32)))

-- the word writes a number of members, from 1 to 4294967295
abbrev pub IsSize : List ℕ → ℕ → Type 0
IsSize word n = IsNumber word n × (1 ≤ n) × (n < 2 ^ 32)

-- the words are a type that a builder makes, and bytes
abbrev pub AsksToBuild : List (List ℕ) → Collection → List ℕ → Type 0
AsksToBuild words collection text =
    (form : Form) × (word : List ℕ) × (words ≡ name_of form ∷ word ∷ []) × (collection_of form ≡ Some collection)
    × IsText word text

-- the words are a set's type, and the bytes of a set and of an item
abbrev pub AsksForPosition : List (List ℕ) → SetForm → List ℕ → List ℕ → Type 0
AsksForPosition words set text item =
    (form : Form) × (first : List ℕ) × (second : List ℕ) × (words ≡ name_of form ∷ first ∷ second ∷ [])
    × (set_form_of form ≡ Some set) × IsText first text × IsText second item

-- the words are a model, and a number of members
abbrev pub AsksForFaults : List (List ℕ) → ℕ → ℕ → Type 0
AsksForFaults words k n =
    (model : List ℕ) × (size : List ℕ) × (words ≡ model ∷ size ∷ []) × IsModel model k × IsSize size n

-- the words are a model, a number of members, and one of faults, which is no greater
abbrev pub AsksToRefute : List (List ℕ) → ℕ → ℕ → ℕ → Type 0
AsksToRefute words k n f =
    (model : List ℕ) × (size : List ℕ) × (number : List ℕ) × (words ≡ model ∷ size ∷ number ∷ []) × IsModel model k
    × IsSize size n × IsNumber number f × (f ≤ n)

-- the words are a model, a number of members, and the encoding of a certificate
abbrev pub AsksForQuorum : List (List ℕ) → ℕ → ℕ → List ℕ → Type 0
AsksForQuorum words k n text =
    (model : List ℕ) × (size : List ℕ) × (word : List ℕ) × (words ≡ model ∷ size ∷ word ∷ []) × IsModel model k
    × IsSize size n × IsText word text

-- the words are a model, a number of members, and the encodings of two certificates
abbrev pub AsksForConflict : List (List ℕ) → ℕ → ℕ → List ℕ → List ℕ → Type 0
AsksForConflict words k n one other =
    (model : List ℕ) × (size : List ℕ) × (first : List ℕ) × (second : List ℕ)
    × (words ≡ model ∷ size ∷ first ∷ second ∷ []) × IsModel model k × IsSize size n × IsText first one
    × IsText second other

-- the words are a model, and what lists weights
abbrev pub AsksForWeights : List (List ℕ) → ℕ → List ℕ → Type 0
AsksForWeights words k weights =
    (model : List ℕ) × (list : List ℕ) × (words ≡ model ∷ list ∷ []) × IsModel model k × IsText list weights

-- the words are a model, what lists weights, and the encoding of a certificate
abbrev pub AsksForWeightedQuorum : List (List ℕ) → ℕ → List ℕ → List ℕ → Type 0
AsksForWeightedQuorum words k weights text =
    (model : List ℕ) × (list : List ℕ) × (word : List ℕ) × (words ≡ model ∷ list ∷ word ∷ []) × IsModel model k
    × IsText list weights × IsText word text

-- the words are a model, what lists weights, and the encodings of two certificates
abbrev pub AsksForWeightedConflict : List (List ℕ) → ℕ → List ℕ → List ℕ → List ℕ → Type 0
AsksForWeightedConflict words k weights one other =
    (model : List ℕ) × (list : List ℕ) × (first : List ℕ) × (second : List ℕ)
    × (words ≡ model ∷ list ∷ first ∷ second ∷ []) × IsModel model k × IsText list weights × IsText first one
    × IsText second other

-- the words after a verb ask for the task
abbrev pub AsksFor : {A : Type 0} → Verb → List (List ℕ) → Task A → Type 0
AsksFor Build words (tasks.Build collection unique text) = (unique ≡ false) × AsksToBuild words collection text
AsksFor BuildUnique words (tasks.Build collection unique text) =
    (unique ≡ true) × AsksToBuild words collection text
AsksFor Position words (tasks.Position set text item) = AsksForPosition words set text item
AsksFor Faults words (tasks.Faults k n) = AsksForFaults words k n
AsksFor Refute words (tasks.Refute k n f) = AsksToRefute words k n f
AsksFor Quorum words (tasks.Quorum k n text) = AsksForQuorum words k n text
AsksFor Conflict words (tasks.Conflict k n one other) = AsksForConflict words k n one other
AsksFor Equivocation words (tasks.Equivocation k n one other) = AsksForConflict words k n one other
AsksFor Weights words (tasks.Weighted (weighted.Numbers k weights)) = AsksForWeights words k weights
AsksFor WeightedQuorum words (tasks.Weighted (weighted.Quorum k weights text)) =
    AsksForWeightedQuorum words k weights text
AsksFor WeightedConflict words (tasks.Weighted (weighted.Conflict k weights one other)) =
    AsksForWeightedConflict words k weights one other
AsksFor WeightedEquivocation words (tasks.Weighted (weighted.Equivocation k weights one other)) =
    AsksForWeightedConflict words k weights one other
AsksFor _ words _ = ⊥

-- the words don't begin with a model
abbrev pub LackModel : List (List ℕ) → Type 0
LackModel words = (word : List ℕ) (more : List (List ℕ)) (k : ℕ) → words ≡ word ∷ more → ¬ IsModel word k

-- they begin with a model, and what follows Lacks
abbrev pub LackAfterModel : List (List ℕ) → (List (List ℕ) → Type 0) → Type 0
LackAfterModel words Lacks =
    (word : List ℕ) × (more : List (List ℕ)) × (k : ℕ) × (words ≡ word ∷ more) × IsModel word k × Lacks more

-- the words aren't the bytes of two inputs
abbrev pub LackTwoTexts : List (List ℕ) → Type 0
LackTwoTexts words = (first second one other : List ℕ) → words ≡ first ∷ second ∷ [] → IsText first one
    → ¬ IsText second other

-- the words aren't the bytes of three inputs
abbrev pub LackThreeTexts : List (List ℕ) → Type 0
LackThreeTexts words = (list first second weights one other : List ℕ) → words ≡ list ∷ first ∷ second ∷ []
    → IsText list weights → IsText first one → ¬ IsText second other

-- the words aren't a number of members and one that is no greater
abbrev pub LackTwoNumbers : List (List ℕ) → Type 0
LackTwoNumbers words = (size number : List ℕ) (n f : ℕ) → words ≡ size ∷ number ∷ [] → IsSize size n
    → IsNumber number f → ¬ (f ≤ n)

-- What is wrong with words that should say what to build.
abbrev pub LackBuild : List (List ℕ) → Unreadable → Type 0
LackBuild words Name = (form : Form) (more : List (List ℕ)) (collection : Collection) → words ≡ name_of form ∷ more
    → collection_of form ≢ Some collection
LackBuild words Bytes =
    (form : Form) × (more : List (List ℕ)) × (collection : Collection) × (words ≡ name_of form ∷ more)
    × (collection_of form ≡ Some collection) × ((word text : List ℕ) → more ≡ word ∷ [] → ¬ IsText word text)
LackBuild words _ = ⊥

-- What is wrong with words that should ask for a position.
abbrev pub LackPosition : List (List ℕ) → Unreadable → Type 0
LackPosition words Name = (form : Form) (more : List (List ℕ)) (set : SetForm) → words ≡ name_of form ∷ more
    → set_form_of form ≢ Some set
LackPosition words Bytes =
    (form : Form) × (more : List (List ℕ)) × (set : SetForm) × (words ≡ name_of form ∷ more)
    × (set_form_of form ≡ Some set) × LackTwoTexts more
LackPosition words _ = ⊥

-- What is wrong with words that should ask for the numbers of a model.
abbrev pub LackFaults : List (List ℕ) → Unreadable → Type 0
LackFaults words Model = LackModel words
LackFaults words Number =
    LackAfterModel words (λ more. (size : List ℕ) (n : ℕ) → more ≡ size ∷ [] → ¬ IsSize size n)
LackFaults words _ = ⊥

-- What is wrong with words that should ask for a refutation.
abbrev pub LackRefute : List (List ℕ) → Unreadable → Type 0
LackRefute words Model = LackModel words
LackRefute words Number = LackAfterModel words LackTwoNumbers
LackRefute words _ = ⊥

-- they begin with a model, and no number of members follows
abbrev pub LackSize : List (List ℕ) → Type 0
LackSize words =
    LackAfterModel words (λ more. (size : List ℕ) (rest : List (List ℕ)) (n : ℕ) → more ≡ size ∷ rest
    → ¬ IsSize size n)

-- they begin with a model and a number of members, and what follows Lacks
abbrev pub LackAfterSize : List (List ℕ) → (List (List ℕ) → Type 0) → Type 0
LackAfterSize words Lacks =
    LackAfterModel words (λ more. (size : List ℕ) × (rest : List (List ℕ)) × (n : ℕ) × (more ≡ size ∷ rest)
    × IsSize size n × Lacks rest)

-- What is wrong with words that should ask for a quorum.
abbrev pub LackQuorum : List (List ℕ) → Unreadable → Type 0
LackQuorum words Model = LackModel words
LackQuorum words Number = LackSize words
LackQuorum words Bytes = LackAfterSize words (λ rest. (word text : List ℕ) → rest ≡ word ∷ [] → ¬ IsText word text)
LackQuorum words _ = ⊥

-- What is wrong with words that should ask who signed both of two certificates.
abbrev pub LackConflict : List (List ℕ) → Unreadable → Type 0
LackConflict words Model = LackModel words
LackConflict words Number = LackSize words
LackConflict words Bytes = LackAfterSize words LackTwoTexts
LackConflict words _ = ⊥

-- What is wrong with words that should ask for the numbers of weights.
abbrev pub LackWeights : List (List ℕ) → Unreadable → Type 0
LackWeights words Model = LackModel words
LackWeights words Bytes = LackAfterModel words (λ more. (word text : List ℕ) → more ≡ word ∷ [] → ¬ IsText word text)
LackWeights words _ = ⊥

-- What is wrong with words that should ask for a quorum by weight.
abbrev pub LackWeightedQuorum : List (List ℕ) → Unreadable → Type 0
LackWeightedQuorum words Model = LackModel words
LackWeightedQuorum words Bytes = LackAfterModel words LackTwoTexts
LackWeightedQuorum words _ = ⊥

-- What is wrong with words that should ask who signed both of two certificates, where quorums are by weight.
abbrev pub LackWeightedConflict : List (List ℕ) → Unreadable → Type 0
LackWeightedConflict words Model = LackModel words
LackWeightedConflict words Bytes = LackAfterModel words LackThreeTexts
LackWeightedConflict words _ = ⊥

-- what is wrong with the words after a verb
abbrev pub Lack : Verb → List (List ℕ) → Unreadable → Type 0
Lack Build words what = LackBuild words what
Lack BuildUnique words what = LackBuild words what
Lack Position words what = LackPosition words what
Lack Faults words what = LackFaults words what
Lack Refute words what = LackRefute words what
Lack Quorum words what = LackQuorum words what
Lack Conflict words what = LackConflict words what
Lack Equivocation words what = LackConflict words what
Lack Weights words what = LackWeights words what
Lack WeightedQuorum words what = LackWeightedQuorum words what
Lack WeightedConflict words what = LackWeightedConflict words what
Lack WeightedEquivocation words what = LackWeightedConflict words what

-- the line begins with no verb
abbrev pub HasNoVerb : List ℕ → Type 0
HasNoVerb line = (verb : Verb) (rest : List (List ℕ)) → words_of line ≢ verb_name verb ∷ rest

-- the line asks for the task: a verb, and the words after it
abbrev pub IsTask : {A : Type 0} → List ℕ → Task A → Type 0
IsTask line task =
    (verb : Verb) × (rest : List (List ℕ)) × (words_of line ≡ verb_name verb ∷ rest) × AsksFor verb rest task

-- what of a line that begins with a verb can't be read
abbrev pub IsUnreadableTask : List ℕ → Unreadable → Type 0
IsUnreadableTask line what =
    (verb : Verb) × (rest : List (List ℕ)) × (words_of line ≡ verb_name verb ∷ rest) × Lack verb rest what
