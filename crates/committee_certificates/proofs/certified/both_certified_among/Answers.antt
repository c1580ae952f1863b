use Rattle.committee_certificates.specs.Signers.{AreQuorum}
use Rattle.committee_certificates.proofs.certified.both_certified_among.Goals as goal

pub returns-then-is_ok-clause-safe : goal.returns-then-is_ok-clause-safe
returns-then-is_ok-clause-safe g c = λ yes fits rule at_most one two.
    let first : AreQuorum (λ _. c.args.faults) c.args.members c.args.first.now.signers =
    c.check_quorum_among.ensures.quorum.0 (cc) in
    let second : AreQuorum (λ _. c.args.faults) c.args.members c.args.second.now.signers =
    c.check_quorum_among-then-is_ok.ensures.quorum.0 (cc) in
    c.safety_of.ensures (λ _. c.args.faults) c.args.members fits rule at_most one two first second
