use Rattle.std.proofs.Common.{List, ℕ}
use Rattle.commonware_base.proofs.Errors.{err_along}
use Rattle.commonware_utils.specs.Codec.{Accepts, Fault, refuses_from}
use Rattle.commonware_utils.proofs.headline.decode.Goals as goal

pub returns-in_err-value-clause-only : goal.returns-in_err-value-clause-only
returns-in_err-value-clause-only g c =
    let limits = c.args.limits.now in
    let text = c.args.input.now in
    let laws = g.met.T.Read.read_laws c.args.alloc limits in
    err_along c.from_residual.result c.in_err-value.field-0.0 _ c.from_residual.ensures.1
    (refuses_from (g.T.Read.fault limits text)
    (λ (f : Fault). (v : g.row.T.Denot) (rest : List ℕ)
    → ¬ Accepts g.T.EncodeSize.enc g.T.EncodeSize.writable (g.T.Read.allowed limits) text v rest)
    (g.T.Read.memory_free limits text) _
    (λ f faulty v rest accepted. laws.accepted_no_fault text v rest f accepted faulty)
    (λ wants. wants)
    c.in_err-value.field-0.0
    (rw (c.new-source.ensures.position, c.new-source.ensures.bytes) at c.in_err-value.ensures.refused))
