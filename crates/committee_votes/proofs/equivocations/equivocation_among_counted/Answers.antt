use Rattle.std.proofs.lemmas.Result.{IfOk-weaker}
use Rattle.committee_votes.proofs.Sharing.{quorums_leave, quorums_share_many}
use Rattle.committee_votes.proofs.equivocations.equivocation_among_counted.Goals as goal

pub returns-clause-shared : goal.returns-clause-shared
returns-clause-shared g c =
    IfOk-weaker c.overlap_counted.result _ _ (λ both s. quorums_share_many c.args.members c.args.faults both s)
    c.overlap_counted.ensures.shared

pub returns-clause-leaves : goal.returns-clause-leaves
returns-clause-leaves g c = λ fits.
    IfOk-weaker c.overlap_counted.result _ _ (λ both s. quorums_leave c.args.members c.args.faults both s fits)
    c.overlap_counted.ensures.shared
