-- Quorum intersection at the signers of both certificates.
use Rattle.committee_certificates.proofs.Members.{AreQuorumsAndBoth, both-many, both-leave}
use Rattle.committee_certificates.proofs.conflicts.conflict_among_counted.Goals as goal
use Rattle.committee_certificates.proofs.conflicts.conflict_among_counted.Given.{Over}

-- both certificates have a quorum of signers
quorums : (g : Over) (c : goal.In_ok-both g)
    → AreQuorumsAndBoth c.args.members c.args.faults
    c.args.first.now.signers c.args.second.now.signers c.in_ok-both.both
quorums g c =
    let checked = c.in_ok-check_signers.ensures in
    record {
      first_strict = checked.strict.0;
      second_strict = checked.strict.1;
      first_members = checked.members.0;
      second_members = checked.members.1;
      first_enough = checked.enough.0;
      second_enough = checked.enough.1;
      both = c.in_ok-both.ensures.both;
    }

pub returns-clause-shared : goal.returns-clause-shared
returns-clause-shared g c = both-many (quorums g c)

pub returns-clause-leaves : goal.returns-clause-leaves
returns-clause-leaves g c = both-leave (quorums g c)
