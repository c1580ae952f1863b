use Rattle.std.proofs.Common.{arith, length, refl}
use Rattle.commonware_utils.specs.Faults.{n3f1_faults}
use Rattle.uses.proofs.safety.check_both.Goals as goal

pub returns : goal.returns
returns g c = λ yes rule at_most one two.
    c.safety_of.ensures n3f1_faults (length c.args.members.now) (omega (arith, c.requires.some.0)) rule at_most one two
    (c.in_ok-check_quorum.ensures.quorum.0 refl) (c.check_quorum-2.ensures.quorum.0 yes)
