use Rattle.std.proofs.Common.{inl}
use Rattle.judge_verdicts.proofs.Results.{on_error}
use Rattle.judge_verdicts.proofs.places.position_as.Goals as goal

pub returns-in_err-held-clause-memory : goal.returns-in_err-held-clause-memory
returns-in_err-held-clause-memory g c = on_error _ c.from_residual.result (inl c.in_err-held.ensures.memory)

pub returns-in-Some-clause-found : goal.returns-in-Some-clause-found
returns-in-Some-clause-found g c =
    (c.in-Ok.held, c.in-Ok-2.value, rw c.in-Ok.is at c.in_ok-held.ensures.read, rw c.in-Ok-2.is at c.in_ok-value.ensures.read, (c.position.ensures.only c.in-Some.place).0 c.in-Some.is)
