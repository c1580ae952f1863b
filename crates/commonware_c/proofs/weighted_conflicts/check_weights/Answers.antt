-- What the signers of each weigh, beside what a quorum does.
use Rattle.std.proofs.Common.{ap, arith, length}
use Rattle.committee_certificates.proofs.Counted.{outsider_from_not_members}
use Rattle.commonware_c.specs.WeightedConflicts.{first_outside, second_outside}
use Rattle.commonware_c.proofs.weighted_conflicts.check_weights.Goals as goal

pub returns-in_default-clause-refused : goal.returns-in_default-clause-refused
returns-in_default-clause-refused c = λ k one two quorum first second.
    let n = length c.args.weights.now in
    first_outside (ap (λ r. r.status) c.reason_of.ensures) (ap (λ r. r.which) c.reason_of.ensures)
    (outsider_from_not_members n one (c.in_default.ensures one first))

pub returns-in_default-weight_of_signers-clause-refused : goal.returns-in_default-weight_of_signers-clause-refused
returns-in_default-weight_of_signers-clause-refused c = λ k one two quorum first second.
    let n = length c.args.weights.now in
    let reason = c.reason_of-in_default-weight_of_signers.ensures in
    second_outside (ap (λ r. r.status) reason) (ap (λ r. r.which) reason) (c.in-Some.ensures one first).0
    (outsider_from_not_members n two (c.in_default-weight_of_signers.ensures two second))

pub returns-clause-quorums : goal.returns-clause-quorums
returns-clause-quorums c = λ k one two quorum first second.
    let ones = c.in-Some.ensures one first in
    let twos = c.in-Some-weight_of_signers.ensures two second in (
      (ones.0, omega (arith, ones.1, quorum, c.if-one-quorum.false)),
      (twos.0, omega (arith, twos.1, quorum, c.if-two-quorum.false)),
    )
