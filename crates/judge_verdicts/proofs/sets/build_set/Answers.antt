use Rattle.std.proofs.Common.{inl, inr}
use Rattle.judge_verdicts.proofs.Results.{on_error}
use Rattle.judge_verdicts.proofs.sets.build_set.Goals as goal

pub returns-in_err-items-clause-memory : goal.returns-in_err-items-clause-memory
returns-in_err-items-clause-memory g c = on_error _ c.from_residual.result (inl c.in_err-items.ensures.memory)

pub returns-in-Ok-clause-memory : goal.returns-in-Ok-clause-memory
returns-in-Ok-clause-memory g c = on_error _ c.make_set.result (
    let whole = rw c.in-Ok.is at c.in_ok-items.ensures.read in
    inr (c.in-Ok.items.items, record { writable = whole.writable; allowed = whole.allowed; begins = whole.begins })
    )
