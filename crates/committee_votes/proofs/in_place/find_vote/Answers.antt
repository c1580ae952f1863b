use Rattle.commonware_base.proofs.Errors.{err_along}
use Rattle.committee_votes.proofs.FoundVote.{found_decision_refused, found_domain_refused, found_slot_refused}
use Rattle.committee_votes.proofs.FoundVote.{vote_found}
use Rattle.committee_votes.proofs.in_place.find_vote.Goals as goal

pub returns-in_err-domain-clause-refused : goal.returns-in_err-domain-clause-refused
returns-in_err-domain-clause-refused c =
    err_along c.from_residual.result c.in_err-domain.field-0.0 _ c.from_residual.ensures.1
    (found_domain_refused c.args.ranges.domain c.args.ranges.slot c.args.ranges.decision c.args.src.now
    c.in_err-domain.field-0.0 c.in_err-domain.ensures.refused)

pub returns-in_err-slot-clause-refused : goal.returns-in_err-slot-clause-refused
returns-in_err-slot-clause-refused c =
    err_along c.from_residual-in_err-slot.result c.in_err-slot.field-0.0 _ c.from_residual-in_err-slot.ensures.1
    (found_slot_refused c.args.ranges.domain c.args.ranges.slot c.args.ranges.decision c.args.src.now
    c.in_ok-domain.domain.now c.find_bytes.new.src c.in_ok-domain.ensures.accepted c.in_err-slot.field-0.0
    c.in_err-slot.ensures.refused)

pub returns-in_err-decision-clause-refused : goal.returns-in_err-decision-clause-refused
returns-in_err-decision-clause-refused c =
    err_along c.from_residual-in_err-decision.result c.in_err-decision.field-0.0 _
    c.from_residual-in_err-decision.ensures.1
    (found_decision_refused c.args.ranges.domain c.args.ranges.slot c.args.ranges.decision c.args.src.now
    c.in_ok-domain.domain.now c.find_bytes.new.src c.in_ok-domain.ensures.accepted c.in_ok-slot.slot.now
    c.find_bytes-2.new.src c.in_ok-slot.ensures.accepted c.in_err-decision.field-0.0
    c.in_err-decision.ensures.refused)

pub returns-clause-accepted : goal.returns-clause-accepted
returns-clause-accepted c =
    vote_found c.args.ranges.domain c.args.ranges.slot c.args.ranges.decision c.args.src.now c.in_ok-domain.domain.now
    c.find_bytes.new.src c.in_ok-domain.ensures.accepted c.in_ok-slot.slot.now c.find_bytes-2.new.src
    c.in_ok-slot.ensures.accepted c.in_ok-decision.decision.now c.find_bytes-3.new.src
    c.in_ok-decision.ensures.accepted
