use Rattle.commonware_base.proofs.Errors.{err_along}
use Rattle.committee_votes.specs.Encodings.{fields_at}
use Rattle.committee_votes.proofs.FoundVote.{found_signers_refused, found_vote_refused, vote_certificate_found}
use Rattle.committee_votes.proofs.in_place.find_vote_certificate.Goals as goal

pub returns-in_err-vote-clause-refused : goal.returns-in_err-vote-clause-refused
returns-in_err-vote-clause-refused c =
    let ranges = c.args.ranges in
    err_along c.from_residual.result c.in_err-vote.field-0.0 _ c.from_residual.ensures.1
    (found_vote_refused ranges.domain ranges.slot ranges.decision c.args.signers_range c.args.src.now
    c.in_err-vote.field-0.0 c.in_err-vote.ensures.refused)

pub returns-in_err-signers-clause-refused : goal.returns-in_err-signers-clause-refused
returns-in_err-signers-clause-refused c =
    let ranges = c.args.ranges in
    err_along c.from_residual-in_err-signers.result c.in_err-signers.field-0.0 _
    c.from_residual-in_err-signers.ensures.1
    (found_signers_refused ranges.domain ranges.slot ranges.decision c.args.signers_range c.args.src.now
    (fields_at c.in_ok-vote.vote) c.find_vote.new.src c.in_ok-vote.ensures.accepted c.in_err-signers.field-0.0
    c.in_err-signers.ensures.refused)

pub returns-clause-accepted : goal.returns-clause-accepted
returns-clause-accepted c =
    let ranges = c.args.ranges in
    let (indices, accepted, taken, signers) = c.in_ok-signers.ensures.accepted in
    let (whole, consumed) =
    vote_certificate_found ranges.domain ranges.slot ranges.decision c.args.signers_range c.args.src.now
    (fields_at c.in_ok-vote.vote) c.find_vote.new.src c.in_ok-vote.ensures.accepted indices c.find_signers.new.src
    accepted taken in
    (indices, whole, consumed, signers)
