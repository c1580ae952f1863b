use Rattle.std.proofs.Common.{inl}
use Rattle.committee_certificates.specs.Certificates.{parts}
use Rattle.judge_verdicts.proofs.Needs.{quorum_needs}
use Rattle.judge_verdicts.proofs.Results.{if_err_so, on_error}
use Rattle.judge_verdicts.proofs.equivocation.equivocation_of.Goals as goal

pub returns-in_err-one-clause-memory : goal.returns-in_err-one-clause-memory
returns-in_err-one-clause-memory g c =
    on_error _ c.from_residual.result c.in_err-one.ensures.memory

pub returns-in-Ok-clause-memory : goal.returns-in-Ok-clause-memory
returns-in-Ok-clause-memory g c =
    let one = parts c.in-Ok.one in
    let other = parts c.in-Ok.other in
    let whole = rw c.in-Ok.is at c.in_ok-one.ensures.read in
    if_err_so _ _ c.by_slot.result (λ h. inl (quorum_needs c.args.k c.args.n c.args.first.now one other c.requires.some c.requires.resilience whole.0 h.1)) c.by_slot.ensures.memory
