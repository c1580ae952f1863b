use Rattle.std.proofs.Common.{refl, arith, ap, length}
use Rattle.committee_certificates.specs.Accountability.{Passes}
use Rattle.committee_votes.specs.Accountability.{InLog}
use Rattle.committee_votes.specs.Votes.{ballot_at}
use Rattle.committee_votes.proofs.Sharing.{AreListsAndBoth, shared_of}
use Rattle.committee_votes.proofs.Signing.{each_guilty, none_honest}
use Rattle.committee_votes.proofs.overlaps.overlap_counted.Goals as goal

pub returns-in-Ok-signers_of_both_counted-clause-guilty : goal.returns-in-Ok-signers_of_both_counted-clause-guilty
returns-in-Ok-signers_of_both_counted-clause-guilty g c log = λ h k.
    each_guilty (InLog log) c.args.first_signers.now c.args.second_signers.now c.in-Ok-signers_of_both_counted.both
    (ballot_at c.args.first) (ballot_at c.args.second) h k (c.in-Ok.ensures.contradict.0 refl)
    c.in-Ok-signers_of_both_counted.ensures.both

pub returns-in-Ok-signers_of_both_counted-clause-innocent : goal.returns-in-Ok-signers_of_both_counted-clause-innocent
returns-in-Ok-signers_of_both_counted-clause-innocent g c honest log = λ rule h k.
    none_honest (Passes honest) (InLog log) rule c.args.first_signers.now c.args.second_signers.now
    c.in-Ok-signers_of_both_counted.both (ballot_at c.args.first) (ballot_at c.args.second) h k
    (c.in-Ok.ensures.contradict.0 refl) c.in-Ok-signers_of_both_counted.ensures.both

pub returns-in-Ok-signers_of_both_counted-clause-shared : goal.returns-in-Ok-signers_of_both_counted-clause-shared
returns-in-Ok-signers_of_both_counted-clause-shared g c =
    let one = c.as_slice-one.ensures.items in
    let two = c.as_slice-two.ensures.items in
    let lists : AreListsAndBoth c.args.members c.args.first_signers.now c.args.second_signers.now
    c.in-Ok-signers_of_both_counted.both = record {
      first_strict = c.as_slice-one.ensures.strict;
      second_strict = c.as_slice-two.ensures.strict;
      first_members = c.if-not-are_members.ensures.is_true.0 refl;
      second_members = c.if-not-are_members-2.ensures.is_true.0 refl;
      both = c.in-Ok-signers_of_both_counted.ensures.both;
    } in
    shared_of lists c.args.first_least c.args.second_least (omega (arith, ap length one, c.if-one-first_least.false))
    (omega (arith, ap length two, c.if-two-second_least.false))
