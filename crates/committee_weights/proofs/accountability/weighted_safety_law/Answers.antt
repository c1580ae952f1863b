use Rattle.committee_certificates.specs.Accountability.{InLog, Passes}
use Rattle.committee_weights.proofs.Safe.{no_two}
use Rattle.committee_weights.proofs.accountability.weighted_safety_law.Goals as goal

pub returns : goal.returns
returns c ws f honest log = no_two ws f (Passes honest) (InLog log)
