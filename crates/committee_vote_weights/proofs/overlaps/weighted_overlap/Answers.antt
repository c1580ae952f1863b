use Rattle.std.proofs.Common.{length, refl, arith, inl, inr}
use Rattle.committee_certificates.proofs.Counted.{outsider_from_not_members}
use Rattle.committee_certificates.specs.Accountability.{Passes}
use Rattle.committee_votes.specs.Accountability.{InLog}
use Rattle.committee_votes.specs.Votes.{ballot_at}
use Rattle.committee_votes.proofs.Signing.{each_guilty, none_honest}
use Rattle.committee_vote_weights.proofs.Weighing.{shared_by_weight}
use Rattle.committee_vote_weights.proofs.overlaps.weighted_overlap.Goals as goal

pub returns-in_default-clause-outside : goal.returns-in_default-clause-outside
returns-in_default-clause-outside g c =
    let none = outsider_from_not_members (length c.args.weights.now) c.args.first_signers.now c.in_default.ensures in
    (λ e. (c.in-Ok.ensures.contradict.0 refl, inl none), λ h. refl)

pub returns-in_default-weight_of-clause-outside : goal.returns-in_default-weight_of-clause-outside
returns-in_default-weight_of-clause-outside g c =
    let none = outsider_from_not_members (length c.args.weights.now) c.args.second_signers.now c.in_default-weight_of.ensures in
    (λ e. (c.in-Ok.ensures.contradict.0 refl, inr none), λ h. refl)

pub returns-in-Ok-signers_of_both_counted-clause-shared : goal.returns-in-Ok-signers_of_both_counted-clause-shared
returns-in-Ok-signers_of_both_counted-clause-shared g c =
    shared_by_weight c.args.weights.now c.args.first_signers.now c.args.second_signers.now c.in-Ok-signers_of_both_counted.both
    c.args.first_least c.args.second_least c.in-Ok-signers_of_both_counted.ensures.both
    (omega (arith, c.if-one-first_least.false, c.in-Some.ensures.1))
    (omega (arith, c.if-two-second_least.false, c.in-Some-weight_of.ensures.1))

pub returns-in-Ok-signers_of_both_counted-clause-guilty : goal.returns-in-Ok-signers_of_both_counted-clause-guilty
returns-in-Ok-signers_of_both_counted-clause-guilty g c log = λ h k.
    each_guilty (InLog log) c.args.first_signers.now c.args.second_signers.now c.in-Ok-signers_of_both_counted.both
    (ballot_at c.args.first) (ballot_at c.args.second) h k (c.in-Ok.ensures.contradict.0 refl)
    c.in-Ok-signers_of_both_counted.ensures.both

pub returns-in-Ok-signers_of_both_counted-clause-innocent : goal.returns-in-Ok-signers_of_both_counted-clause-innocent
returns-in-Ok-signers_of_both_counted-clause-innocent g c honest log = λ rule h k.
    none_honest (Passes honest) (InLog log) rule c.args.first_signers.now c.args.second_signers.now
    c.in-Ok-signers_of_both_counted.both (ballot_at c.args.first) (ballot_at c.args.second) h k
    (c.in-Ok.ensures.contradict.0 refl) c.in-Ok-signers_of_both_counted.ensures.both
