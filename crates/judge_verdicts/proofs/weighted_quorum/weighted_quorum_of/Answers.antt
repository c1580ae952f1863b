-- Where there are weights, they were read with an allocation.
use Rattle.judge_verdicts.proofs.Needs.{weights_need}
use Rattle.judge_verdicts.proofs.Results.{on_error}
use Rattle.judge_verdicts.proofs.weighted_quorum.weighted_quorum_of.Goals as goal

pub returns-in_err-certificate-clause-memory : goal.returns-in_err-certificate-clause-memory
returns-in_err-certificate-clause-memory g c =
    on_error _ c.from_residual-in_err-certificate.result (weights_need c.args.list.now c.in-Ok.weights (rw c.in-Ok.is at c.in_ok-weights.ensures.listed))

pub returns-in-Ok-2-clause-memory : goal.returns-in-Ok-2-clause-memory
returns-in-Ok-2-clause-memory g c = on_error _ c.checked.result (weights_need c.args.list.now c.in-Ok.weights (rw c.in-Ok.is at c.in_ok-weights.ensures.listed))
