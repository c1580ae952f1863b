use Rattle.committee_votes.proofs.Signing.{keys_guilty, not_honest}
use Rattle.committee_votes.proofs.laws.double_signer_law_by_key.Goals as goal

pub returns-clause-guilty : goal.returns-clause-guilty
returns-clause-guilty g c = keys_guilty g.B.Ballots.key_of g.B.Ballots.key_signed

pub returns-clause-innocent : goal.returns-clause-innocent
returns-clause-innocent g c = not_honest g.B.Ballots.key_honest g.B.Ballots.key_signed
