-- Where not all are members, some aren't.
use Rattle.std.proofs.Common.{inl, inr, length, refl}
use Rattle.committee_certificates.proofs.Counted.{outsider_from_not_members}
use Rattle.committee_weights.proofs.conflicts.check_signers.Goals as goal

pub returns-in_default-clause-outside : goal.returns-in_default-clause-outside
returns-in_default-clause-outside g c =
    let n = length c.args.weights.now in
    (λ e. inl (outsider_from_not_members n c.args.first.now c.in_default.ensures), λ h. refl)

pub returns-in_default-weight_of-clause-outside : goal.returns-in_default-weight_of-clause-outside
returns-in_default-weight_of-clause-outside g c =
    let n = length c.args.weights.now in
    (λ e. inr (outsider_from_not_members n c.args.second.now c.in_default-weight_of.ensures), λ h. refl)
