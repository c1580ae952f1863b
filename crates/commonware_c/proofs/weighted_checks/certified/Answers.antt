-- What the signers weigh, beside what a quorum does.
use Rattle.std.proofs.Common.{ap, arith, length, refl}
use Rattle.committee_certificates.proofs.Counted.{outsider_from_not_members}
use Rattle.committee_weights.specs.Members.{quorum_weight}
use Rattle.committee_weights.proofs.Sharing.{some_weight}
use Rattle.commonware_c.specs.WeightedChecks.{outside, too_light}
use Rattle.commonware_c.proofs.weighted_checks.certified.Goals as goal

pub returns-in_default-clause-refused : goal.returns-in_default-clause-refused
returns-in_default-clause-refused c =
    let (signers, whole, at) = c.in_ok-found.ensures.whole in
    outside refl refl c.in_ok-total.ensures.model (c.in_ok-found.found.value.now, signers) whole
    (outsider_from_not_members (length c.args.weights.now) signers (c.in_default.ensures signers at))

pub quorum_of-requires-clause-some : goal.quorum_of-requires-clause-some
quorum_of-requires-clause-some c =
    let are = c.in_ok-total.ensures.model.1 in
    omega (arith, some_weight c.args.weights.now are.are_weights, c.in_ok-total.ensures.total)

pub returns-then-weight-quorum_of-clause-refused : goal.returns-then-weight-quorum_of-clause-refused
returns-then-weight-quorum_of-clause-refused c =
    let (signers, whole, at) = c.in_ok-found.ensures.whole in
    let weighs = c.in-Some.ensures signers at in
    let quorum = ap (quorum_weight c.args.k) c.in_ok-total.ensures.total in
    too_light refl refl c.in_ok-total.ensures.model (c.in_ok-found.found.value.now, signers) whole weighs.0
    (omega (arith, c.if-weight-quorum_of.true, weighs.1, c.quorum_of.ensures, quorum))

pub returns-clause-certified : goal.returns-clause-certified
returns-clause-certified c =
    let (signers, whole, at) = c.in_ok-found.ensures.whole in
    let weighs = c.in-Some.ensures signers at in
    let quorum = ap (quorum_weight c.args.k) c.in_ok-total.ensures.total in (
      signers,
      (
        c.in_ok-total.ensures.model,
        whole,
        (weighs.0, omega (arith, c.if-weight-quorum_of.false, weighs.1, c.quorum_of.ensures, quorum)),
      ),
      at,
      weighs.1,
    )
