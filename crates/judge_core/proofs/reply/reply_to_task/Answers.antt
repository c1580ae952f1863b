-- The reply to each task is told by its verdict; and where an allocation fails, a line that asks for the task isn't
-- memory-free.
use Rattle.std.proofs.Common.{ℕ, List, Option, Some, None, false, refl, subst, true}
use Rattle.std.specs.Prelude.{IfNone, IfSome}
use Rattle.judge_questions.specs.Tasks.{IsTask}
use Rattle.judge_verdicts.specs.Builds.{MayFailToAllocateToBuild}
use Rattle.judge_verdicts.specs.Collections.{IsBuilt, IsFoundIn, MayFailToAllocateToFindIn, lists_of}
use Rattle.judge_verdicts.specs.Conflicts.{IsConflict, MayFailToAllocateToJudgeBoth}
use Rattle.judge_verdicts.specs.Equivocations.{IsEquivocation}
use Rattle.judge_verdicts.specs.Quorums.{IsChecked, MayFailToAllocateToJudge, checked_of}
use Rattle.judge_verdicts.specs.Whole.{items_of}
use Rattle.judge_verdicts.specs.declared.numbers.Refutation.{Refutation}
use Rattle.judge_verdicts.proofs.Results.{on_error}
use Rattle.judge_core.specs.Answered.{accused, built, checked, counted, found, named, refuted}
use Rattle.judge_core.specs.Memory.{IsLineMemoryFree}
use Rattle.judge_core.specs.Replies.{reply_text}
use Rattle.judge_core.specs.Tasks.{IsRefuted}
use Rattle.judge_core.proofs.Asked.{asked_build, asked_conflict, asked_equivocation, asked_faults, asked_position}
use Rattle.judge_core.proofs.Asked.{asked_quorum, asked_refute}
use Rattle.judge_core.proofs.reply.reply_to_task.Goals as goal

-- both cases of a refutation
either_way : (k n f : ℕ) (why : Option Refutation) → IfSome why (λ r. IsRefuted k n f (Some r)) → IfNone why (IsRefuted k n f None) → IsRefuted k n f why
either_way k n f (Some r) some none = some
either_way k n f None some none = none

pub returns-in_ok-build-in-Build-clause-told : goal.returns-in_ok-build-in-Build-clause-told
unfolding reply_text
returns-in_ok-build-in-Build-clause-told g c =
    let b = c.in-Build in
    let made = items_of c.in_ok-build-in-Build.field-0 in
    let right = subst (λ t. IsBuilt b.collection b.unique t made) c.as_slice.ensures c.in_ok-build-in-Build.ensures.built in
    λ line task. built b.unique b.collection b.text made (asked_build {A = g.row.A.Denot} line b.collection b.unique b.text (subst (IsTask line) b.is task)) right refl refl

pub returns-in_ok-position-in-Position-clause-told : goal.returns-in_ok-position-in-Position-clause-told
unfolding reply_text
returns-in_ok-position-in-Position-clause-told g c =
    let p = c.in-Position in
    let place = c.in_ok-position-in-Position.field-0 in
    let half = subst (λ t. IsFoundIn p.set t c.as_slice-in-Position-2.result.now place) c.as_slice-in-Position.ensures c.in_ok-position-in-Position.ensures.found in
    let right = subst (λ t. IsFoundIn p.set p.text t place) c.as_slice-in-Position-2.ensures half in
    λ line task. found p.set p.text p.item place (asked_position {A = g.row.A.Denot} line p.set p.text p.item (subst (IsTask line) p.is task)) right refl refl

pub returns-in-Faults-clause-told : goal.returns-in-Faults-clause-told
unfolding reply_text
returns-in-Faults-clause-told g c =
    let f = c.in-Faults in
    λ line task. counted f.k f.n c.fault_numbers.result (asked_faults {A = g.row.A.Denot} line f.k f.n (subst (IsTask line) f.is task)) c.fault_numbers.ensures refl refl

pub returns-in-Refute-clause-told : goal.returns-in-Refute-clause-told
unfolding reply_text
returns-in-Refute-clause-told g c =
    let r = c.in-Refute in
    let right = either_way r.k r.n r.f c.refute.result c.refute.ensures.refuted c.refute.ensures.tolerated in
    λ line task. refuted r.k r.n r.f c.refute.result (asked_refute {A = g.row.A.Denot} line r.k r.n r.f (subst (IsTask line) r.is task)) right refl refl

pub returns-in_ok-conflict_of-in-Conflict-clause-told : goal.returns-in_ok-conflict_of-in-Conflict-clause-told
unfolding reply_text
returns-in_ok-conflict_of-in-Conflict-clause-told g c =
    let f = c.in-Conflict in
    let members = items_of c.in_ok-conflict_of-in-Conflict.field-0 in
    let half = subst (λ t. IsConflict f.k f.n t c.as_slice-in-Conflict-2.result.now members) c.as_slice-in-Conflict.ensures c.in_ok-conflict_of-in-Conflict.ensures.members in
    let right = subst (λ t. IsConflict f.k f.n f.first t members) c.as_slice-in-Conflict-2.ensures half in
    λ line task. named f.k f.n f.first f.second members (asked_conflict {A = g.row.A.Denot} line f.k f.n f.first f.second (subst (IsTask line) f.is task)) right refl refl

pub returns-in_ok-quorum_of-in-Quorum-clause-told : goal.returns-in_ok-quorum_of-in-Quorum-clause-told
unfolding reply_text
returns-in_ok-quorum_of-in-Quorum-clause-told g c =
    let q = c.in-Quorum in
    let made = checked_of c.in_ok-quorum_of-in-Quorum.field-0 in
    let right = subst (λ t. IsChecked q.k q.n t made) c.as_slice-in-Quorum.ensures c.in_ok-quorum_of-in-Quorum.ensures.checked in
    λ line task. checked q.k q.n q.text made (asked_quorum {A = g.row.A.Denot} line q.k q.n q.text (subst (IsTask line) q.is task)) right refl refl

pub returns-in_ok-equivocation_of-in-Equivocation-clause-told : goal.returns-in_ok-equivocation_of-in-Equivocation-clause-told
unfolding reply_text
returns-in_ok-equivocation_of-in-Equivocation-clause-told g c =
    let e = c.in-Equivocation in
    let members = items_of c.in_ok-equivocation_of-in-Equivocation.field-0 in
    let half = subst (λ t. IsEquivocation e.k e.n t c.as_slice-in-Equivocation-2.result.now members) c.as_slice-in-Equivocation.ensures c.in_ok-equivocation_of-in-Equivocation.ensures.members in
    let right = subst (λ t. IsEquivocation e.k e.n e.first t members) c.as_slice-in-Equivocation-2.ensures half in
    λ line task. accused e.k e.n e.first e.second members (asked_equivocation {A = g.row.A.Denot} line e.k e.n e.first e.second (subst (IsTask line) e.is task)) right refl refl

pub returns-in_err-build-in-Build-clause-memory : goal.returns-in_err-build-in-Build-clause-memory
returns-in_err-build-in-Build-clause-memory g c =
    let b = c.in-Build in
    let may = subst (λ t. MayFailToAllocateToBuild (lists_of b.collection) t) c.as_slice.ensures c.in_err-build-in-Build.ensures.memory in
    on_error ((line : List ℕ) → IsTask line c.args.task.now → ¬ IsLineMemoryFree line) c.from_residual.result
    (λ line task free. free.builds b.unique b.collection b.text (asked_build {A = g.row.A.Denot} line b.collection b.unique b.text (subst (IsTask line) b.is task)) may)

pub returns-in_err-position-in-Position-clause-memory : goal.returns-in_err-position-in-Position-clause-memory
returns-in_err-position-in-Position-clause-memory g c =
    let p = c.in-Position in
    let half = subst (λ t. MayFailToAllocateToFindIn p.set t c.as_slice-in-Position-2.result.now) c.as_slice-in-Position.ensures c.in_err-position-in-Position.ensures.memory in
    let may = subst (λ t. MayFailToAllocateToFindIn p.set p.text t) c.as_slice-in-Position-2.ensures half in
    on_error ((line : List ℕ) → IsTask line c.args.task.now → ¬ IsLineMemoryFree line) c.from_residual-in_err-position-in-Position.result
    (λ line task free. free.positions p.set p.text p.item (asked_position {A = g.row.A.Denot} line p.set p.text p.item (subst (IsTask line) p.is task)) may)

pub returns-in_err-conflict_of-in-Conflict-clause-memory : goal.returns-in_err-conflict_of-in-Conflict-clause-memory
returns-in_err-conflict_of-in-Conflict-clause-memory g c =
    let f = c.in-Conflict in
    let half = subst (λ t. MayFailToAllocateToJudgeBoth t c.as_slice-in-Conflict-2.result.now) c.as_slice-in-Conflict.ensures c.in_err-conflict_of-in-Conflict.ensures.memory in
    let may = subst (λ t. MayFailToAllocateToJudgeBoth f.first t) c.as_slice-in-Conflict-2.ensures half in
    on_error ((line : List ℕ) → IsTask line c.args.task.now → ¬ IsLineMemoryFree line) c.from_residual-in_err-conflict_of-in-Conflict.result
    (λ line task free. free.conflicts false f.k f.n f.first f.second (asked_conflict {A = g.row.A.Denot} line f.k f.n f.first f.second (subst (IsTask line) f.is task)) may)

pub returns-in_err-quorum_of-in-Quorum-clause-memory : goal.returns-in_err-quorum_of-in-Quorum-clause-memory
returns-in_err-quorum_of-in-Quorum-clause-memory g c =
    let q = c.in-Quorum in
    let may = subst MayFailToAllocateToJudge c.as_slice-in-Quorum.ensures c.in_err-quorum_of-in-Quorum.ensures.memory in
    on_error ((line : List ℕ) → IsTask line c.args.task.now → ¬ IsLineMemoryFree line) c.from_residual-in_err-quorum_of-in-Quorum.result
    (λ line task free. free.quorums q.k q.n q.text (asked_quorum {A = g.row.A.Denot} line q.k q.n q.text (subst (IsTask line) q.is task)) may)

pub returns-in_err-equivocation_of-in-Equivocation-clause-memory : goal.returns-in_err-equivocation_of-in-Equivocation-clause-memory
returns-in_err-equivocation_of-in-Equivocation-clause-memory g c =
    let e = c.in-Equivocation in
    let half = subst (λ t. MayFailToAllocateToJudgeBoth t c.as_slice-in-Equivocation-2.result.now) c.as_slice-in-Equivocation.ensures c.in_err-equivocation_of-in-Equivocation.ensures.memory in
    let may = subst (λ t. MayFailToAllocateToJudgeBoth e.first t) c.as_slice-in-Equivocation-2.ensures half in
    on_error ((line : List ℕ) → IsTask line c.args.task.now → ¬ IsLineMemoryFree line) c.from_residual-in_err-equivocation_of-in-Equivocation.result
    (λ line task free. free.conflicts true e.k e.n e.first e.second (asked_equivocation {A = g.row.A.Denot} line e.k e.n e.first e.second (subst (IsTask line) e.is task)) may)

pub reply_by_weight-requires : goal.reply_by_weight-requires
reply_by_weight-requires g c =
    let w = c.in-Weighted in
    let (line, task) = c.requires in
    (line, subst (IsTask line) w.is task)

pub returns-in_ok-reply_by_weight-in-Weighted-clause-told : goal.returns-in_ok-reply_by_weight-in-Weighted-clause-told
returns-in_ok-reply_by_weight-in-Weighted-clause-told g c =
    λ line task. c.in_ok-reply_by_weight-in-Weighted.ensures.told line (subst (IsTask line) c.in-Weighted.is task)
