use Rattle.std.proofs.Common.{arith}
use Rattle.std.proofs.lemmas.Grind.{common_steps}
use Rattle.speed_core.proofs.command.parse_args.Goals as goal

pub returns-in-len1-clause-asked : goal.returns-in-len1-clause-asked
returns-in-len1-clause-asked g c = grind (arith, common_steps)

pub returns-in-len1-clause-other : goal.returns-in-len1-clause-other
returns-in-len1-clause-other g c = grind (arith, common_steps)

pub returns-in_default-clause-other : goal.returns-in_default-clause-other
returns-in_default-clause-other g c = grind (arith, common_steps)

pub returns-in_default-2-clause-other : goal.returns-in_default-2-clause-other
returns-in_default-2-clause-other g c = grind (arith, common_steps)
