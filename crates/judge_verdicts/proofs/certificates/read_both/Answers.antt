use Rattle.std.proofs.Common.{inl, inr}
use Rattle.committee_certificates.specs.Certificates.{parts}
use Rattle.judge_verdicts.proofs.Results.{on_error}
use Rattle.judge_verdicts.proofs.certificates.read_both.Goals as goal

pub returns-in_err-one-clause-memory : goal.returns-in_err-one-clause-memory
returns-in_err-one-clause-memory g c = on_error _ c.from_residual.result (inl c.in_err-one.ensures.memory)

pub returns-in_err-other-clause-memory : goal.returns-in_err-other-clause-memory
returns-in_err-other-clause-memory g c =
    on_error _ c.from_residual-in_err-other.result
    (inr (parts c.in-Ok.one, rw c.in-Ok.is at c.in_ok-one.ensures.read, c.in_err-other.ensures.memory))
