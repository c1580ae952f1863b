use Rattle.std.proofs.Common.{arith}
use Rattle.commonware_base.proofs.Errors.{err_along}
use Rattle.commonware_c.specs.Certificates.{bad_second}
use Rattle.commonware_c.proofs.conflicts.find_both.Goals as goal

pub returns-in_err-two-clause-unread : goal.returns-in_err-two-clause-unread
returns-in_err-two-clause-unread c =
    let (indices, whole, at) = c.in_ok-one.ensures.whole in
    err_along c.from_residual-in_err-two.result c.in_err-two.field-0.0 _ c.from_residual-in_err-two.ensures.1
    (bad_second c.in_err-two.ensures.which (omega (arith, c.if-k-lt2.false), omega (arith, c.if-members-eq0.false))
    (c.in_ok-one.one.value.now, indices) whole c.in_err-two.ensures.refused)
