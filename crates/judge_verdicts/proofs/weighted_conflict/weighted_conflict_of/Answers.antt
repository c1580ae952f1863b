-- What the certificates say of the weights is what their encodings say; and where there are weights, they were read with
-- an allocation.
use Rattle.std.proofs.Common.{List, ℕ}
use Rattle.std.specs.Prelude.{Err, Ok, Result}
use Rattle.committee_certificates.specs.Certificates.{parts}
use Rattle.judge_verdicts.specs.Conflicts.{AreWhole}
use Rattle.judge_verdicts.specs.WeightedConflicts.{IsWeightedConflict, IsWeightedConflictOf, Weighed, weighed_of}
use Rattle.judge_verdicts.specs.Weights.{AreListed}
use Rattle.judge_verdicts.specs.declared.weighted_conflict.NoWeightedConflict.{NoWeightedConflict}
use Rattle.judge_verdicts.specs.declared.weighted_conflict.NoWeightedConflict.TheVariants.{EqualValues, Outside, TooLight, Unlisted, Unread}
use Rattle.judge_verdicts.proofs.Needs.{weights_need}
use Rattle.judge_verdicts.proofs.Results.{if_ok_so, on_error}
use Rattle.judge_verdicts.proofs.weighted_conflict.weighted_conflict_of.Goals as goal

module _ (k : ℕ) (list first second weights : List ℕ) (one other : List ℕ × List ℕ) (listed : AreListed list weights) (whole : AreWhole first second one other) where
  read : (said : Result Weighed NoWeightedConflict) → IsWeightedConflictOf k weights one other said → IsWeightedConflict k list first second said
  read (Ok named) h = (weights, listed, (one, other, whole, h))
  read (Err EqualValues) h = (weights, listed, (one, other, whole, h))
  read (Err Outside) h = (weights, listed, (one, other, whole, h))
  read (Err TooLight) h = (weights, listed, (one, other, whole, h))
  read (Err (Unlisted why)) h = absurd h
  read (Err (Unread what)) h = absurd h

pub returns-in-Ok-2-clause-members : goal.returns-in-Ok-2-clause-members
returns-in-Ok-2-clause-members g c =
    let listed = rw c.in-Ok.is at c.in_ok-weights.ensures.listed in
    let whole = rw c.in-Ok-2.is at c.in_ok-one.ensures.read in
    let p = parts c.in-Ok-2.one in
    let q = parts c.in-Ok-2.other in
    if_ok_so (λ named. IsWeightedConflictOf c.args.k c.in-Ok.weights p q (weighed_of named)) (λ named. IsWeightedConflict c.args.k c.args.list.now c.args.first.now c.args.second.now (weighed_of named)) c.among.result
    (λ named. read c.args.k c.args.list.now c.args.first.now c.args.second.now c.in-Ok.weights p q listed whole (weighed_of named)) c.among.ensures.members

pub returns-in_err-one-clause-memory : goal.returns-in_err-one-clause-memory
returns-in_err-one-clause-memory g c =
    on_error _ c.from_residual-in_err-one.result (weights_need c.args.list.now c.in-Ok.weights (rw c.in-Ok.is at c.in_ok-weights.ensures.listed))

pub returns-in-Ok-2-clause-memory : goal.returns-in-Ok-2-clause-memory
returns-in-Ok-2-clause-memory g c = on_error _ c.among.result (weights_need c.args.list.now c.in-Ok.weights (rw c.in-Ok.is at c.in_ok-weights.ensures.listed))
