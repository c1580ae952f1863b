-- The half of the others is the greatest f.
use Rattle.std.proofs.Common.{rules, arith}
use Rattle.commonware_utils.specs.Faults.{fault_tolerance_of}
use Rattle.uses.proofs.models.N2f1Faults.max_faults.Goals as goal

pub returns-clause-greatest : goal.returns-clause-greatest
returns-clause-greatest g c = (fault_tolerance_of 2 _ _ (omega arith) (search rules) (search rules)).greatest
