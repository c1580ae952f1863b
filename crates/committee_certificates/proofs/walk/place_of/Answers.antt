use Rattle.std.proofs.Common.{arith}
use Rattle.committee_certificates.proofs.Walked.{at_first, past_refused}
use Rattle.committee_certificates.proofs.walk.place_of.Goals as goal

pub returns-in-Ok-clause-at : goal.returns-in-Ok-clause-at
returns-in-Ok-clause-at c = λ indices on n.
    at_first c.args.source.now c.read_varint.new.src c.args.left c.in-Ok.index c.in-Ok.ensures.fits
    c.in-Ok.ensures.consumed indices on n (omega (arith, c.if-left-eq0.false))

pub returns-in-Err-clause-at : goal.returns-in-Err-clause-at
returns-in-Err-clause-at c = λ indices on n.
    past_refused c.args.source.now c.in-Err.field-0 c.in-Err.ensures.refused c.past_all-in-Err.result
    c.past_all-in-Err.ensures indices on
