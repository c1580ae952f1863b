use Rattle.committee_certificates.specs.Accountability.{InLog, Passes}
use Rattle.committee_certificates.proofs.Accountable.{each_guilty, no_two, not_honest}
use Rattle.committee_certificates.proofs.accountability.accountability_law.Goals as goal

pub returns-clause-guilty : goal.returns-clause-guilty
returns-clause-guilty c log = each_guilty (InLog log)

pub returns-clause-innocent : goal.returns-clause-innocent
returns-clause-innocent c honest log = not_honest (Passes honest) (InLog log)

pub returns-clause-safe : goal.returns-clause-safe
returns-clause-safe c n f honest log = no_two n f (Passes honest) (InLog log)
