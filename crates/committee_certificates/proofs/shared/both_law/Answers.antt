use Rattle.committee_certificates.proofs.Same.{both_only, both_turned}
use Rattle.committee_certificates.proofs.shared.both_law.Goals as goal

pub returns-clause-symmetric : goal.returns-clause-symmetric
returns-clause-symmetric c first second both = (both_turned first second both, both_turned second first both)

pub returns-clause-only : goal.returns-clause-only
returns-clause-only c = both_only
