use Rattle.committee_certificates.proofs.Accountable.{each_guilty, no_two, not_honest}
use Rattle.committee_certificates.proofs.accountability.accountability_of.Goals as goal

pub returns-clause-guilty : goal.returns-clause-guilty
returns-clause-guilty g c = each_guilty g.S.Signing.signed

pub returns-clause-innocent : goal.returns-clause-innocent
returns-clause-innocent g c = not_honest g.S.Signing.honest g.S.Signing.signed

pub returns-clause-safe : goal.returns-clause-safe
returns-clause-safe g c n f = no_two n f g.S.Signing.honest g.S.Signing.signed
