-- What a line asks for by a verb.
use Rattle.std.proofs.Common.{◌≡◌, ℕ, List, Bool, true, false, subst, sym}
use Rattle.judge_questions.specs.Tasks.{AsksForConflict, AsksForFaults, AsksForPosition, AsksForQuorum, AsksToBuild}
use Rattle.judge_questions.specs.Tasks.{AsksToRefute}
use Rattle.judge_questions.specs.Tasks.{IsTask, build_verb}
use Rattle.judge_questions.specs.declared.collection.Collection.{Collection}
use Rattle.judge_questions.specs.declared.collection.SetForm.{SetForm}
use Rattle.judge_questions.specs.declared.task.Task.TheVariants as tasks
use Rattle.judge_questions.specs.declared.verb.Verb.TheVariants.{Build, BuildUnique, Position, Faults, Refute}
use Rattle.judge_questions.specs.declared.verb.Verb.TheVariants.{Quorum, Conflict, Equivocation}
use Rattle.judge_questions.specs.declared.verb.Verb.TheVariants.{Weights, WeightedQuorum, WeightedConflict, WeightedEquivocation}
use Rattle.judge_core.specs.Answered.{AsksBy}

-- words that ask to build, where equal ones count once or none may be equal
by_unique : (line : List ℕ) (unique chosen : Bool) (c : Collection) (text : List ℕ) → unique ≡ chosen → AsksBy line (build_verb chosen) (λ words. AsksToBuild words c text) → AsksBy line (build_verb unique) (λ words. AsksToBuild words c text)
by_unique line unique chosen c text is h = subst (λ u. AsksBy line (build_verb u) (λ words. AsksToBuild words c text)) (sym is) h

module _ {A : Type 0} (line : List ℕ) where
  pub asked_build : (c : Collection) (unique : Bool) (text : List ℕ) → IsTask {A = A} line (tasks.Build c unique text) → AsksBy line (build_verb unique) (λ words. AsksToBuild words c text)
  asked_build c unique text (Build, rest, is, h) = by_unique line unique false c text h.0 (rest, is, h.1)
  asked_build c unique text (BuildUnique, rest, is, h) = by_unique line unique true c text h.0 (rest, is, h.1)
  asked_build c unique text (Position, rest, is, h) = absurd h
  asked_build c unique text (Faults, rest, is, h) = absurd h
  asked_build c unique text (Refute, rest, is, h) = absurd h
  asked_build c unique text (Quorum, rest, is, h) = absurd h
  asked_build c unique text (Conflict, rest, is, h) = absurd h
  asked_build c unique text (Equivocation, rest, is, h) = absurd h
  asked_build c unique text (Weights, rest, is, h) = absurd h
  asked_build c unique text (WeightedQuorum, rest, is, h) = absurd h
  asked_build c unique text (WeightedConflict, rest, is, h) = absurd h
  asked_build c unique text (WeightedEquivocation, rest, is, h) = absurd h

  pub asked_position : (set : SetForm) (text item : List ℕ) → IsTask {A = A} line (tasks.Position set text item) → AsksBy line Position (λ words. AsksForPosition words set text item)
  asked_position set text item (Build, rest, is, h) = absurd h
  asked_position set text item (BuildUnique, rest, is, h) = absurd h
  asked_position set text item (Position, rest, is, h) = (rest, is, h)
  asked_position set text item (Faults, rest, is, h) = absurd h
  asked_position set text item (Refute, rest, is, h) = absurd h
  asked_position set text item (Quorum, rest, is, h) = absurd h
  asked_position set text item (Conflict, rest, is, h) = absurd h
  asked_position set text item (Equivocation, rest, is, h) = absurd h
  asked_position set text item (Weights, rest, is, h) = absurd h
  asked_position set text item (WeightedQuorum, rest, is, h) = absurd h
  asked_position set text item (WeightedConflict, rest, is, h) = absurd h
  asked_position set text item (WeightedEquivocation, rest, is, h) = absurd h

  pub asked_faults : (k n : ℕ) → IsTask {A = A} line (tasks.Faults k n) → AsksBy line Faults (λ words. AsksForFaults words k n)
  asked_faults k n (Build, rest, is, h) = absurd h
  asked_faults k n (BuildUnique, rest, is, h) = absurd h
  asked_faults k n (Position, rest, is, h) = absurd h
  asked_faults k n (Faults, rest, is, h) = (rest, is, h)
  asked_faults k n (Refute, rest, is, h) = absurd h
  asked_faults k n (Quorum, rest, is, h) = absurd h
  asked_faults k n (Conflict, rest, is, h) = absurd h
  asked_faults k n (Equivocation, rest, is, h) = absurd h
  asked_faults k n (Weights, rest, is, h) = absurd h
  asked_faults k n (WeightedQuorum, rest, is, h) = absurd h
  asked_faults k n (WeightedConflict, rest, is, h) = absurd h
  asked_faults k n (WeightedEquivocation, rest, is, h) = absurd h

  pub asked_refute : (k n f : ℕ) → IsTask {A = A} line (tasks.Refute k n f) → AsksBy line Refute (λ words. AsksToRefute words k n f)
  asked_refute k n f (Build, rest, is, h) = absurd h
  asked_refute k n f (BuildUnique, rest, is, h) = absurd h
  asked_refute k n f (Position, rest, is, h) = absurd h
  asked_refute k n f (Faults, rest, is, h) = absurd h
  asked_refute k n f (Refute, rest, is, h) = (rest, is, h)
  asked_refute k n f (Quorum, rest, is, h) = absurd h
  asked_refute k n f (Conflict, rest, is, h) = absurd h
  asked_refute k n f (Equivocation, rest, is, h) = absurd h
  asked_refute k n f (Weights, rest, is, h) = absurd h
  asked_refute k n f (WeightedQuorum, rest, is, h) = absurd h
  asked_refute k n f (WeightedConflict, rest, is, h) = absurd h
  asked_refute k n f (WeightedEquivocation, rest, is, h) = absurd h

  pub asked_quorum : (k n : ℕ) (text : List ℕ) → IsTask {A = A} line (tasks.Quorum k n text) → AsksBy line Quorum (λ words. AsksForQuorum words k n text)
  asked_quorum k n text (Build, rest, is, h) = absurd h
  asked_quorum k n text (BuildUnique, rest, is, h) = absurd h
  asked_quorum k n text (Position, rest, is, h) = absurd h
  asked_quorum k n text (Faults, rest, is, h) = absurd h
  asked_quorum k n text (Refute, rest, is, h) = absurd h
  asked_quorum k n text (Quorum, rest, is, h) = (rest, is, h)
  asked_quorum k n text (Conflict, rest, is, h) = absurd h
  asked_quorum k n text (Equivocation, rest, is, h) = absurd h
  asked_quorum k n text (Weights, rest, is, h) = absurd h
  asked_quorum k n text (WeightedQuorum, rest, is, h) = absurd h
  asked_quorum k n text (WeightedConflict, rest, is, h) = absurd h
  asked_quorum k n text (WeightedEquivocation, rest, is, h) = absurd h

  pub asked_conflict : (k n : ℕ) (one other : List ℕ) → IsTask {A = A} line (tasks.Conflict k n one other) → AsksBy line Conflict (λ words. AsksForConflict words k n one other)
  asked_conflict k n one other (Build, rest, is, h) = absurd h
  asked_conflict k n one other (BuildUnique, rest, is, h) = absurd h
  asked_conflict k n one other (Position, rest, is, h) = absurd h
  asked_conflict k n one other (Faults, rest, is, h) = absurd h
  asked_conflict k n one other (Refute, rest, is, h) = absurd h
  asked_conflict k n one other (Quorum, rest, is, h) = absurd h
  asked_conflict k n one other (Conflict, rest, is, h) = (rest, is, h)
  asked_conflict k n one other (Equivocation, rest, is, h) = absurd h
  asked_conflict k n one other (Weights, rest, is, h) = absurd h
  asked_conflict k n one other (WeightedQuorum, rest, is, h) = absurd h
  asked_conflict k n one other (WeightedConflict, rest, is, h) = absurd h
  asked_conflict k n one other (WeightedEquivocation, rest, is, h) = absurd h

  pub asked_equivocation : (k n : ℕ) (one other : List ℕ) → IsTask {A = A} line (tasks.Equivocation k n one other) → AsksBy line Equivocation (λ words. AsksForConflict words k n one other)
  asked_equivocation k n one other (Build, rest, is, h) = absurd h
  asked_equivocation k n one other (BuildUnique, rest, is, h) = absurd h
  asked_equivocation k n one other (Position, rest, is, h) = absurd h
  asked_equivocation k n one other (Faults, rest, is, h) = absurd h
  asked_equivocation k n one other (Refute, rest, is, h) = absurd h
  asked_equivocation k n one other (Quorum, rest, is, h) = absurd h
  asked_equivocation k n one other (Conflict, rest, is, h) = absurd h
  asked_equivocation k n one other (Equivocation, rest, is, h) = (rest, is, h)
  asked_equivocation k n one other (Weights, rest, is, h) = absurd h
  asked_equivocation k n one other (WeightedQuorum, rest, is, h) = absurd h
  asked_equivocation k n one other (WeightedConflict, rest, is, h) = absurd h
  asked_equivocation k n one other (WeightedEquivocation, rest, is, h) = absurd h
