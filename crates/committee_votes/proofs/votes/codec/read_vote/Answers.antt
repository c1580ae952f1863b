use Rattle.commonware_base.proofs.Errors.{err_along}
use Rattle.commonware_base.specs.Source.{rest_of}
use Rattle.commonware_base.specs.Text.{Accepts}
use Rattle.committee_votes.specs.Encodings.{AreWritableBytes, bytes_enc, HasAllowedLength}
use Rattle.committee_votes.proofs.Reading.{decision_refuses, domain_refuses, slot_refuses}
use Rattle.committee_votes.proofs.votes.codec.read_vote.Goals as goal

pub returns-in_err-domain-clause-refused : goal.returns-in_err-domain-clause-refused
returns-in_err-domain-clause-refused g c =
    err_along c.from_residual.result c.in_err-domain.field-0.0 _ c.from_residual.ensures.1
    (domain_refuses c.args.ranges.domain c.args.ranges.slot c.args.ranges.decision (rest_of c.args.src.now)
    c.in_err-domain.field-0.0 c.in_err-domain.ensures.refused)

pub returns-in_err-slot-clause-refused : goal.returns-in_err-slot-clause-refused
returns-in_err-slot-clause-refused g c =
    let a = c.in_ok-domain.ensures in
    let domain : Accepts bytes_enc AreWritableBytes (HasAllowedLength c.args.ranges.domain) (rest_of c.args.src.now)
    c.in_ok-domain.domain.items (rest_of c.read_list.new.src) =
    record { writable = a.writable; allowed = a.allowed; begins = a.consumed.rest } in
    err_along c.from_residual-in_err-slot.result c.in_err-slot.field-0.0 _ c.from_residual-in_err-slot.ensures.1
    (slot_refuses c.args.ranges.domain c.args.ranges.slot c.args.ranges.decision (rest_of c.args.src.now)
    c.in_ok-domain.domain.items (rest_of c.read_list.new.src) domain
    c.in_err-slot.field-0.0 c.in_err-slot.ensures.refused)

pub returns-in_err-decision-clause-refused : goal.returns-in_err-decision-clause-refused
returns-in_err-decision-clause-refused g c =
    let a = c.in_ok-domain.ensures in
    let b = c.in_ok-slot.ensures in
    let domain : Accepts bytes_enc AreWritableBytes (HasAllowedLength c.args.ranges.domain) (rest_of c.args.src.now)
    c.in_ok-domain.domain.items (rest_of c.read_list.new.src) =
    record { writable = a.writable; allowed = a.allowed; begins = a.consumed.rest } in
    let slot : Accepts bytes_enc AreWritableBytes (HasAllowedLength c.args.ranges.slot) (rest_of c.read_list.new.src)
    c.in_ok-slot.slot.items (rest_of c.read_list-2.new.src) =
    record { writable = b.writable; allowed = b.allowed; begins = b.consumed.rest } in
    err_along c.from_residual-in_err-decision.result c.in_err-decision.field-0.0 _ c.from_residual-in_err-decision.ensures.1
    (decision_refuses c.args.ranges.domain c.args.ranges.slot c.args.ranges.decision (rest_of c.args.src.now)
    c.in_ok-domain.domain.items (rest_of c.read_list.new.src) c.in_ok-slot.slot.items (rest_of c.read_list-2.new.src)
    domain slot c.in_err-decision.field-0.0 c.in_err-decision.ensures.refused)
