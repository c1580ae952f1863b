use Rattle.std.proofs.Common.{refl}
use Rattle.committee_certificates.specs.Accountability.{Passes}
use Rattle.committee_votes.specs.Accountability.{InLog}
use Rattle.committee_votes.specs.Votes.{ballot_at}
use Rattle.committee_votes.proofs.Signing.{each_guilty, none_honest}
use Rattle.committee_votes.proofs.doubles.double_signers_counted.Goals as goal

pub returns-in-Ok-signers_of_both_counted-clause-guilty : goal.returns-in-Ok-signers_of_both_counted-clause-guilty
returns-in-Ok-signers_of_both_counted-clause-guilty g c log = λ h k.
    each_guilty (InLog log) c.args.first_signers.now c.args.second_signers.now c.in-Ok-signers_of_both_counted.both
    (ballot_at c.args.first) (ballot_at c.args.second) h k (c.in-Ok.ensures.contradict.0 refl)
    c.in-Ok-signers_of_both_counted.ensures.both

pub returns-in-Ok-signers_of_both_counted-clause-innocent : goal.returns-in-Ok-signers_of_both_counted-clause-innocent
returns-in-Ok-signers_of_both_counted-clause-innocent g c honest log = λ rule h k.
    none_honest (Passes honest) (InLog log) rule c.args.first_signers.now c.args.second_signers.now
    c.in-Ok-signers_of_both_counted.both (ballot_at c.args.first) (ballot_at c.args.second) h k
    (c.in-Ok.ensures.contradict.0 refl) c.in-Ok-signers_of_both_counted.ensures.both
