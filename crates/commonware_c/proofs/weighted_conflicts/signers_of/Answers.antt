use Rattle.std.proofs.Common.{◌≢◌, rules}
use Rattle.commonware_base.proofs.Errors.{err_along}
use Rattle.commonware_c.specs.WeightedConflicts.{no_quorum, unread}
use Rattle.commonware_c.proofs.weighted_conflicts.signers_of.Goals as goal

pub returns-in_err-one-clause-stopped : goal.returns-in_err-one-clause-stopped
returns-in_err-one-clause-stopped c =
    err_along c.from_residual-in_err-one.result c.in_err-one.field-0.0 _ c.from_residual-in_err-one.ensures.1
    (unread c.in_ok-quorum.ensures.model c.in_err-one.ensures.unread)

pub returns-in_err-check_weights-clause-stopped : goal.returns-in_err-check_weights-clause-stopped
returns-in_err-check_weights-clause-stopped c =
    let one = c.in_ok-one.one in
    let two = c.in_ok-one.two in
    let found = c.in_ok-one.ensures.found in
    let differ : one.value.now ≢ two.value.now = search rules in
    err_along c.from_residual-in_err-check_weights.result c.in_err-check_weights.field-0.0 _
    c.from_residual-in_err-check_weights.ensures.1
    (no_quorum c.in_err-check_weights.ensures.number c.in_ok-quorum.ensures.model (
      (one.value.now, found.ones),
      (two.value.now, found.twos),
      found.first_whole,
      found.second_whole,
      (
        differ,
        c.in_err-check_weights.ensures.refused c.args.k found.ones found.twos c.in_ok-quorum.ensures.quorum found.first_at
            found.second_at,
      ),
    ))

pub returns-clause-conflicting : goal.returns-clause-conflicting
returns-clause-conflicting c =
    let one = c.in_ok-one.one in
    let two = c.in_ok-one.two in
    let found = c.in_ok-one.ensures.found in
    let differ : one.value.now ≢ two.value.now = search rules in
    let quorums =
    c.in_ok-check_weights.ensures.quorums c.args.k found.ones found.twos c.in_ok-quorum.ensures.quorum found.first_at
    found.second_at in
    record {
      model = c.in_ok-quorum.ensures.model;
      one = (one.value.now, found.ones);
      two = (two.value.now, found.twos);
      first_whole = found.first_whole;
      second_whole = found.second_whole;
      differ = differ;
      first_quorum = quorums.0;
      second_quorum = quorums.1;
      first_at = found.first_at;
      second_at = found.second_at;
    }
