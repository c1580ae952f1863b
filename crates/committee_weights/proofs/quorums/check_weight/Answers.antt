-- Where not all are members, some aren't.
use Rattle.std.proofs.Common.{length, refl}
use Rattle.committee_certificates.proofs.Counted.{outsider_from_not_members}
use Rattle.committee_weights.proofs.quorums.check_weight.Goals as goal

pub returns-in_default-clause-outside : goal.returns-in_default-clause-outside
returns-in_default-clause-outside g c = (
  λ e. outsider_from_not_members (length c.args.weights.now) c.args.certificate.now.signers c.in_default.ensures,
  λ h. refl,
)
