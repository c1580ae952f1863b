use Rattle.committee_votes.proofs.Signing.{each_guilty, no_two, not_honest}
use Rattle.committee_votes.proofs.laws.double_signer_law.Goals as goal

pub returns-clause-guilty : goal.returns-clause-guilty
returns-clause-guilty g c = each_guilty g.B.Ballots.signed

pub returns-clause-innocent : goal.returns-clause-innocent
returns-clause-innocent g c = not_honest g.B.Ballots.honest g.B.Ballots.signed

pub returns-clause-safe : goal.returns-clause-safe
returns-clause-safe g c n f = no_two n f g.B.Ballots.honest g.B.Ballots.signed
