use Rattle.commonware_base.proofs.Errors.{err_along}
use Rattle.commonware_base.specs.Source.{rest_of}
use Rattle.committee_votes.specs.Encodings.{fields}
use Rattle.committee_votes.proofs.Reading.{signers_refuse, vote_refuses}
use Rattle.committee_votes.proofs.certificates.codec.VoteCertificateRead.read_cfg.Goals as goal

pub returns-in_err-vote-clause-refused : goal.returns-in_err-vote-clause-refused
returns-in_err-vote-clause-refused g c =
    let ranges = c.args.cfg.now.0 in
    err_along c.from_residual.result c.in_err-vote.field-0.0 _ c.from_residual.ensures.1
    (vote_refuses ranges.domain ranges.slot ranges.decision c.args.cfg.now.1 (rest_of c.args.src.now)
    c.in_err-vote.field-0.0 c.in_err-vote.ensures.refused)

pub returns-in_err-signers-clause-refused : goal.returns-in_err-signers-clause-refused
returns-in_err-signers-clause-refused g c =
    let ranges = c.args.cfg.now.0 in
    err_along c.from_residual-in_err-signers.result c.in_err-signers.field-0.0 _ c.from_residual-in_err-signers.ensures.1
    (signers_refuse ranges.domain ranges.slot ranges.decision c.args.cfg.now.1 (rest_of c.args.src.now)
    (fields c.in_ok-vote.vote) (rest_of c.read_vote.new.src) c.in_ok-vote.ensures.accepted
    c.in_err-signers.field-0.0 c.in_err-signers.ensures.refused)
