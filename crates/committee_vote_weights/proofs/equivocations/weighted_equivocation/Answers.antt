use Rattle.std.proofs.lemmas.Result.{IfOk-weaker}
use Rattle.committee_vote_weights.proofs.Weighing.{quorums-leave, quorums-shared, quorums-weigh}
use Rattle.committee_vote_weights.proofs.equivocations.weighted_equivocation.Goals as goal

pub returns-clause-shared : goal.returns-clause-shared
returns-clause-shared g c =
    IfOk-weaker c.weighted_overlap.result _ _
    (λ both s. quorums-shared c.requires.resilience c.len-members.ensures.are_weights c.quorum_weight-quorum.ensures.value s)
    c.weighted_overlap.ensures.shared

pub returns-clause-weigh : goal.returns-clause-weigh
returns-clause-weigh g c =
    IfOk-weaker c.weighted_overlap.result _ _
    (λ both s. quorums-weigh c.requires.resilience c.len-members.ensures.are_weights c.quorum_weight-quorum.ensures.value s)
    c.weighted_overlap.ensures.shared

pub returns-clause-leaves : goal.returns-clause-leaves
returns-clause-leaves g c = λ three.
    IfOk-weaker c.weighted_overlap.result _ _
    (λ both s. quorums-leave c.requires.resilience c.len-members.ensures.are_weights c.quorum_weight-quorum.ensures.value s three)
    c.weighted_overlap.ensures.shared
