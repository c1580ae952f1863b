use Rattle.std.proofs.Common.{refl, arith, rules}
use Rattle.committee_certificates.specs.Signers.{AreMembers, HasOutsider}
use Rattle.commonware_c.specs.Checks.{outside, too_few}
use Rattle.commonware_c.proofs.checks.certified.Goals as goal

pub returns-then-not-are_members-clause-refused : goal.returns-then-not-are_members-clause-refused
returns-then-not-are_members-clause-refused c =
    let (signers, whole, at) = c.in_ok-found.ensures.whole in
    let outsider : HasOutsider c.args.members signers = search rules in
    outside refl refl (omega (arith, c.if-k-lt2.false), omega (arith, c.if-members-eq0.false))
    (c.in_ok-found.found.value.now, signers) whole outsider

pub returns-then-count-members-clause-refused : goal.returns-then-count-members-clause-refused
returns-then-count-members-clause-refused c =
    let (signers, whole, at) = c.in_ok-found.ensures.whole in
    let members : AreMembers c.args.members signers = search rules in
    too_few c.tolerated_faults.result refl refl (omega (arith, c.if-k-lt2.false), omega (arith, c.if-members-eq0.false))
    c.tolerated_faults.ensures (c.in_ok-found.found.value.now, signers) whole members
    (omega (arith, c.if-count-members.true, c.count.ensures.count signers at))
