-- Quorum intersection by weight, at the signers of both certificates.
use Rattle.committee_weights.proofs.Both.{both-leave, both-members, both-shared, both-weigh}
use Rattle.committee_weights.proofs.conflicts.weighted_conflict.Goals as goal

pub returns-in-Ok-clause-members : goal.returns-in-Ok-clause-members
returns-in-Ok-clause-members g c =
    both-members c.requires.resilience c.len-members.ensures.are_weights c.in_ok-check_signers.ensures.quorums
    c.in-Ok.ensures.both

pub returns-in-Ok-clause-shared : goal.returns-in-Ok-clause-shared
returns-in-Ok-clause-shared g c =
    both-shared c.requires.resilience c.len-members.ensures.are_weights c.in_ok-check_signers.ensures.quorums
    c.in-Ok.ensures.both

pub returns-in-Ok-clause-weigh : goal.returns-in-Ok-clause-weigh
returns-in-Ok-clause-weigh g c =
    both-weigh c.requires.resilience c.len-members.ensures.are_weights c.in_ok-check_signers.ensures.quorums
    c.in-Ok.ensures.both

pub returns-in-Ok-clause-leaves : goal.returns-in-Ok-clause-leaves
returns-in-Ok-clause-leaves g c =
    both-leave c.requires.resilience c.len-members.ensures.are_weights c.in_ok-check_signers.ensures.quorums
    c.in-Ok.ensures.both
