-- What a line asks of participants with weights by a verb.
use Rattle.std.proofs.Common.{ℕ, List}
use Rattle.judge_questions.specs.Tasks.{AsksForWeightedConflict, AsksForWeightedQuorum, AsksForWeights, IsTask}
use Rattle.judge_questions.specs.declared.task.Task.TheVariants as tasks
use Rattle.judge_questions.specs.declared.verb.Verb.TheVariants.{Build, BuildUnique, Position, Faults, Refute}
use Rattle.judge_questions.specs.declared.verb.Verb.TheVariants.{Quorum, Conflict, Equivocation}
use Rattle.judge_questions.specs.declared.verb.Verb.TheVariants.{Weights, WeightedQuorum, WeightedConflict, WeightedEquivocation}
use Rattle.judge_questions.specs.declared.weighted.WeightedTask.TheVariants as weighted
use Rattle.judge_core.specs.Answered.{AsksBy}

module _ {A : Type 0} (line : List ℕ) where
  pub asked_weights : (k : ℕ) (list : List ℕ) → IsTask {A = A} line (tasks.Weighted (weighted.Numbers k list)) → AsksBy line Weights (λ words. AsksForWeights words k list)
  asked_weights k list (Build, rest, is, h) = absurd h
  asked_weights k list (BuildUnique, rest, is, h) = absurd h
  asked_weights k list (Position, rest, is, h) = absurd h
  asked_weights k list (Faults, rest, is, h) = absurd h
  asked_weights k list (Refute, rest, is, h) = absurd h
  asked_weights k list (Quorum, rest, is, h) = absurd h
  asked_weights k list (Conflict, rest, is, h) = absurd h
  asked_weights k list (Equivocation, rest, is, h) = absurd h
  asked_weights k list (Weights, rest, is, h) = (rest, is, h)
  asked_weights k list (WeightedQuorum, rest, is, h) = absurd h
  asked_weights k list (WeightedConflict, rest, is, h) = absurd h
  asked_weights k list (WeightedEquivocation, rest, is, h) = absurd h

  pub asked_weighted_quorum : (k : ℕ) (list text : List ℕ) → IsTask {A = A} line (tasks.Weighted (weighted.Quorum k list text)) → AsksBy line WeightedQuorum (λ words. AsksForWeightedQuorum words k list text)
  asked_weighted_quorum k list text (Build, rest, is, h) = absurd h
  asked_weighted_quorum k list text (BuildUnique, rest, is, h) = absurd h
  asked_weighted_quorum k list text (Position, rest, is, h) = absurd h
  asked_weighted_quorum k list text (Faults, rest, is, h) = absurd h
  asked_weighted_quorum k list text (Refute, rest, is, h) = absurd h
  asked_weighted_quorum k list text (Quorum, rest, is, h) = absurd h
  asked_weighted_quorum k list text (Conflict, rest, is, h) = absurd h
  asked_weighted_quorum k list text (Equivocation, rest, is, h) = absurd h
  asked_weighted_quorum k list text (Weights, rest, is, h) = absurd h
  asked_weighted_quorum k list text (WeightedQuorum, rest, is, h) = (rest, is, h)
  asked_weighted_quorum k list text (WeightedConflict, rest, is, h) = absurd h
  asked_weighted_quorum k list text (WeightedEquivocation, rest, is, h) = absurd h

  pub asked_weighted_conflict : (k : ℕ) (list one other : List ℕ) → IsTask {A = A} line (tasks.Weighted (weighted.Conflict k list one other)) → AsksBy line WeightedConflict (λ words. AsksForWeightedConflict words k list one other)
  asked_weighted_conflict k list one other (Build, rest, is, h) = absurd h
  asked_weighted_conflict k list one other (BuildUnique, rest, is, h) = absurd h
  asked_weighted_conflict k list one other (Position, rest, is, h) = absurd h
  asked_weighted_conflict k list one other (Faults, rest, is, h) = absurd h
  asked_weighted_conflict k list one other (Refute, rest, is, h) = absurd h
  asked_weighted_conflict k list one other (Quorum, rest, is, h) = absurd h
  asked_weighted_conflict k list one other (Conflict, rest, is, h) = absurd h
  asked_weighted_conflict k list one other (Equivocation, rest, is, h) = absurd h
  asked_weighted_conflict k list one other (Weights, rest, is, h) = absurd h
  asked_weighted_conflict k list one other (WeightedQuorum, rest, is, h) = absurd h
  asked_weighted_conflict k list one other (WeightedConflict, rest, is, h) = (rest, is, h)
  asked_weighted_conflict k list one other (WeightedEquivocation, rest, is, h) = absurd h

  pub asked_weighted_equivocation : (k : ℕ) (list one other : List ℕ) → IsTask {A = A} line (tasks.Weighted (weighted.Equivocation k list one other)) → AsksBy line WeightedEquivocation (λ words. AsksForWeightedConflict words k list one other)
  asked_weighted_equivocation k list one other (Build, rest, is, h) = absurd h
  asked_weighted_equivocation k list one other (BuildUnique, rest, is, h) = absurd h
  asked_weighted_equivocation k list one other (Position, rest, is, h) = absurd h
  asked_weighted_equivocation k list one other (Faults, rest, is, h) = absurd h
  asked_weighted_equivocation k list one other (Refute, rest, is, h) = absurd h
  asked_weighted_equivocation k list one other (Quorum, rest, is, h) = absurd h
  asked_weighted_equivocation k list one other (Conflict, rest, is, h) = absurd h
  asked_weighted_equivocation k list one other (Equivocation, rest, is, h) = absurd h
  asked_weighted_equivocation k list one other (Weights, rest, is, h) = absurd h
  asked_weighted_equivocation k list one other (WeightedQuorum, rest, is, h) = absurd h
  asked_weighted_equivocation k list one other (WeightedConflict, rest, is, h) = absurd h
  asked_weighted_equivocation k list one other (WeightedEquivocation, rest, is, h) = (rest, is, h)
