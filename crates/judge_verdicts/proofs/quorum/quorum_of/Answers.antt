use Rattle.std.proofs.Common.{ap, arith, length}
use Rattle.committee_certificates.specs.Certificates.{parts}
use Rattle.judge_verdicts.proofs.Needs.{value_needs}
use Rattle.judge_verdicts.proofs.Results.{on_error}
use Rattle.judge_verdicts.proofs.quorum.quorum_of.Goals as goal

pub returns-in_err-certificate-clause-memory : goal.returns-in_err-certificate-clause-memory
returns-in_err-certificate-clause-memory g c = on_error _ c.from_residual.result c.in_err-certificate.ensures.memory

pub returns-in_err-copied_slot-in-Ok-check_quorum_among-clause-memory : goal.returns-in_err-copied_slot-in-Ok-check_quorum_among-clause-memory
returns-in_err-copied_slot-in-Ok-check_quorum_among-clause-memory g c =
    on_error _ (c.from_residual-in_err-copied_slot-in-Ok-check_quorum_among).result
    (value_needs c.args.text.now (parts c.in-Ok.certificate) (rw c.in-Ok.is at c.in_ok-certificate.ensures.read) (omega (arith, ap length c.deref.ensures.value, (c.in_err-copied_slot-in-Ok-check_quorum_among).ensures.memory)))
