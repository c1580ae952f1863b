-- The reply to each task is told by its verdict; and where an allocation fails, a line that asks for the task isn't
-- memory-free.
use Rattle.std.proofs.Common.{ℕ, List, false, refl, subst, true}
use Rattle.judge_questions.specs.Tasks.{IsTask}
use Rattle.judge_questions.specs.declared.task.Task.TheVariants as tasks
use Rattle.judge_verdicts.specs.WeightedConflicts.{IsWeightedConflict, weighed_of}
use Rattle.judge_verdicts.specs.WeightedEquivocations.{IsWeightedEquivocation}
use Rattle.judge_verdicts.specs.WeightedQuorums.{IsWeightChecked, weight_checked_of}
use Rattle.judge_verdicts.specs.Weights.{AreNumbersOfWeights, MayFailToAllocateToWeigh}
use Rattle.judge_verdicts.proofs.Results.{on_error}
use Rattle.judge_core.specs.Answered.{weight_accused, weight_checked, weight_named, weighed}
use Rattle.judge_core.specs.Memory.{IsLineMemoryFree}
use Rattle.judge_core.specs.Replies.{reply_text, weighted_text}
use Rattle.judge_core.proofs.AskedByWeight.{asked_weighted_conflict, asked_weighted_equivocation, asked_weighted_quorum, asked_weights}
use Rattle.judge_core.proofs.weighted_reply.reply_by_weight.Goals as goal

pub returns-in_ok-weight_numbers-in-Numbers-clause-told : goal.returns-in_ok-weight_numbers-in-Numbers-clause-told
unfolding reply_text weighted_text
returns-in_ok-weight_numbers-in-Numbers-clause-told g c =
    let n = c.in-Numbers in
    let made = c.in_ok-weight_numbers-in-Numbers.field-0 in
    let right = subst (λ t. AreNumbersOfWeights n.k t made) c.as_slice.ensures c.in_ok-weight_numbers-in-Numbers.ensures.numbers in
    λ line task. weighed n.k n.weights made (asked_weights {A = g.row.A.Denot} line n.k n.weights (subst (λ t. IsTask line (tasks.Weighted t)) n.is task)) right refl refl

pub returns-in_ok-weighted_quorum_of-in-Quorum-clause-told : goal.returns-in_ok-weighted_quorum_of-in-Quorum-clause-told
unfolding reply_text weighted_text
returns-in_ok-weighted_quorum_of-in-Quorum-clause-told g c =
    let q = c.in-Quorum in
    let made = weight_checked_of c.in_ok-weighted_quorum_of-in-Quorum.field-0 in
    let half = subst (λ t. IsWeightChecked q.k t c.as_slice-in-Quorum-2.result.now made) c.as_slice-in-Quorum.ensures c.in_ok-weighted_quorum_of-in-Quorum.ensures.checked in
    let right = subst (λ t. IsWeightChecked q.k q.weights t made) c.as_slice-in-Quorum-2.ensures half in
    λ line task. weight_checked q.k q.weights q.text made (asked_weighted_quorum {A = g.row.A.Denot} line q.k q.weights q.text (subst (λ t. IsTask line (tasks.Weighted t)) q.is task)) right refl refl

pub returns-in_ok-weighted_conflict_of-in-Conflict-clause-told : goal.returns-in_ok-weighted_conflict_of-in-Conflict-clause-told
unfolding reply_text weighted_text
returns-in_ok-weighted_conflict_of-in-Conflict-clause-told g c =
    let f = c.in-Conflict in
    let members = weighed_of c.in_ok-weighted_conflict_of-in-Conflict.field-0 in
    let one = subst (λ t. IsWeightedConflict f.k t c.as_slice-in-Conflict-2.result.now c.as_slice-in-Conflict-3.result.now members) c.as_slice-in-Conflict.ensures c.in_ok-weighted_conflict_of-in-Conflict.ensures.members in
    let two = subst (λ t. IsWeightedConflict f.k f.weights t c.as_slice-in-Conflict-3.result.now members) c.as_slice-in-Conflict-2.ensures one in
    let right = subst (λ t. IsWeightedConflict f.k f.weights f.first t members) c.as_slice-in-Conflict-3.ensures two in
    λ line task. weight_named f.k f.weights f.first f.second members (asked_weighted_conflict {A = g.row.A.Denot} line f.k f.weights f.first f.second (subst (λ t. IsTask line (tasks.Weighted t)) f.is task)) right refl refl

pub returns-in_ok-weighted_equivocation_of-in-Equivocation-clause-told : goal.returns-in_ok-weighted_equivocation_of-in-Equivocation-clause-told
unfolding reply_text weighted_text
returns-in_ok-weighted_equivocation_of-in-Equivocation-clause-told g c =
    let e = c.in-Equivocation in
    let members = weighed_of c.in_ok-weighted_equivocation_of-in-Equivocation.field-0 in
    let one = subst (λ t. IsWeightedEquivocation e.k t c.as_slice-in-Equivocation-2.result.now c.as_slice-in-Equivocation-3.result.now members) c.as_slice-in-Equivocation.ensures c.in_ok-weighted_equivocation_of-in-Equivocation.ensures.members in
    let two = subst (λ t. IsWeightedEquivocation e.k e.weights t c.as_slice-in-Equivocation-3.result.now members) c.as_slice-in-Equivocation-2.ensures one in
    let right = subst (λ t. IsWeightedEquivocation e.k e.weights e.first t members) c.as_slice-in-Equivocation-3.ensures two in
    λ line task. weight_accused e.k e.weights e.first e.second members (asked_weighted_equivocation {A = g.row.A.Denot} line e.k e.weights e.first e.second (subst (λ t. IsTask line (tasks.Weighted t)) e.is task)) right refl refl

pub returns-in_err-weight_numbers-in-Numbers-clause-memory : goal.returns-in_err-weight_numbers-in-Numbers-clause-memory
returns-in_err-weight_numbers-in-Numbers-clause-memory g c =
    let n = c.in-Numbers in
    let may = subst MayFailToAllocateToWeigh c.as_slice.ensures c.in_err-weight_numbers-in-Numbers.ensures.memory in
    on_error ((line : List ℕ) → IsTask line (tasks.Weighted c.args.task.now) → ¬ IsLineMemoryFree line) c.from_residual.result
    (λ line task free. free.weights n.k n.weights (asked_weights {A = g.row.A.Denot} line n.k n.weights (subst (λ t. IsTask line (tasks.Weighted t)) n.is task)) may)

pub returns-in_err-weighted_quorum_of-in-Quorum-clause-memory : goal.returns-in_err-weighted_quorum_of-in-Quorum-clause-memory
returns-in_err-weighted_quorum_of-in-Quorum-clause-memory g c =
    let q = c.in-Quorum in
    let may = subst MayFailToAllocateToWeigh c.as_slice-in-Quorum.ensures c.in_err-weighted_quorum_of-in-Quorum.ensures.memory in
    on_error ((line : List ℕ) → IsTask line (tasks.Weighted c.args.task.now) → ¬ IsLineMemoryFree line) c.from_residual-in_err-weighted_quorum_of-in-Quorum.result
    (λ line task free. free.weighted_quorums q.k q.weights q.text (asked_weighted_quorum {A = g.row.A.Denot} line q.k q.weights q.text (subst (λ t. IsTask line (tasks.Weighted t)) q.is task)) may)

pub returns-in_err-weighted_conflict_of-in-Conflict-clause-memory : goal.returns-in_err-weighted_conflict_of-in-Conflict-clause-memory
returns-in_err-weighted_conflict_of-in-Conflict-clause-memory g c =
    let f = c.in-Conflict in
    let may = subst MayFailToAllocateToWeigh c.as_slice-in-Conflict.ensures c.in_err-weighted_conflict_of-in-Conflict.ensures.memory in
    on_error ((line : List ℕ) → IsTask line (tasks.Weighted c.args.task.now) → ¬ IsLineMemoryFree line) c.from_residual-in_err-weighted_conflict_of-in-Conflict.result
    (λ line task free. free.weighted_conflicts false f.k f.weights f.first f.second (asked_weighted_conflict {A = g.row.A.Denot} line f.k f.weights f.first f.second (subst (λ t. IsTask line (tasks.Weighted t)) f.is task)) may)

pub returns-in_err-weighted_equivocation_of-in-Equivocation-clause-memory : goal.returns-in_err-weighted_equivocation_of-in-Equivocation-clause-memory
returns-in_err-weighted_equivocation_of-in-Equivocation-clause-memory g c =
    let e = c.in-Equivocation in
    let may = subst MayFailToAllocateToWeigh c.as_slice-in-Equivocation.ensures c.in_err-weighted_equivocation_of-in-Equivocation.ensures.memory in
    on_error ((line : List ℕ) → IsTask line (tasks.Weighted c.args.task.now) → ¬ IsLineMemoryFree line) c.from_residual-in_err-weighted_equivocation_of-in-Equivocation.result
    (λ line task free. free.weighted_conflicts true e.k e.weights e.first e.second (asked_weighted_equivocation {A = g.row.A.Denot} line e.k e.weights e.first e.second (subst (λ t. IsTask line (tasks.Weighted t)) e.is task)) may)
