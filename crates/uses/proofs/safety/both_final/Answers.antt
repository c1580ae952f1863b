use Rattle.std.proofs.Common.{arith}
use Rattle.uses.proofs.safety.both_final.Goals as goal

pub returns : goal.returns
returns g c = λ yes. c.both_certified.ensures.safe yes (omega (arith, c.requires.some.0))
