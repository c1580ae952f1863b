use Rattle.commonware_base.proofs.Errors.{err_along}
use Rattle.committee_certificates.proofs.SlotLemmas.{differ_from_contradict}
use Rattle.commonware_c.specs.WeightedEquivocations.{no_contradiction, no_quorum, unread}
use Rattle.commonware_c.proofs.weighted_equivocations.contradicting_signers.Goals as goal

pub returns-in_err-one-clause-stopped : goal.returns-in_err-one-clause-stopped
returns-in_err-one-clause-stopped c =
    err_along c.from_residual-in_err-one.result c.in_err-one.field-0.0 _ c.from_residual-in_err-one.ensures.1
    (unread c.in_ok-quorum.ensures.model c.in_err-one.ensures.unread)

pub returns-in_err-check_values-clause-stopped : goal.returns-in_err-check_values-clause-stopped
returns-in_err-check_values-clause-stopped c =
    let found = c.in_ok-one.ensures.found in
    err_along c.from_residual-in_err-check_values.result c.in_err-check_values.field-0.0 _
    c.from_residual-in_err-check_values.ensures.1
    (no_contradiction c.in_err-check_values.ensures.number c.in_ok-quorum.ensures.model (
      (c.in_ok-one.one.value.now, found.ones),
      (c.in_ok-one.two.value.now, found.twos),
      found.first_whole,
      found.second_whole,
      c.in_err-check_values.ensures.refused,
    ))

pub returns-in_err-check_weights-clause-stopped : goal.returns-in_err-check_weights-clause-stopped
returns-in_err-check_weights-clause-stopped c =
    let found = c.in_ok-one.ensures.found in
    err_along c.from_residual-in_err-check_weights.result c.in_err-check_weights.field-0.0 _
    c.from_residual-in_err-check_weights.ensures.1
    (no_quorum c.in_err-check_weights.ensures.number c.in_ok-quorum.ensures.model (
      (c.in_ok-one.one.value.now, found.ones),
      (c.in_ok-one.two.value.now, found.twos),
      found.first_whole,
      found.second_whole,
      (
        c.in_ok-check_values.ensures.contradict,
        c.in_err-check_weights.ensures.refused c.args.k found.ones found.twos c.in_ok-quorum.ensures.quorum found.first_at
            found.second_at,
      ),
    ))

pub returns-clause-contradicting : goal.returns-clause-contradicting
returns-clause-contradicting c =
    let found = c.in_ok-one.ensures.found in
    let contradict = c.in_ok-check_values.ensures.contradict in
    let quorums =
    c.in_ok-check_weights.ensures.quorums c.args.k found.ones found.twos c.in_ok-quorum.ensures.quorum found.first_at
    found.second_at in
    record {
      conflicting = record {
        model = c.in_ok-quorum.ensures.model;
        one = (c.in_ok-one.one.value.now, found.ones);
        two = (c.in_ok-one.two.value.now, found.twos);
        first_whole = found.first_whole;
        second_whole = found.second_whole;
        differ = differ_from_contradict contradict;
        first_quorum = quorums.0;
        second_quorum = quorums.1;
        first_at = found.first_at;
        second_at = found.second_at;
      };
      contradict = contradict;
    }
