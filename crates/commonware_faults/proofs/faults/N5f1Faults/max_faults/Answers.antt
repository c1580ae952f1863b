-- What (n - 1) / 5 is by counting.
use Rattle.std.proofs.Common.{rules, arith}
use Rattle.commonware_faults.specs.laws.ToleranceLaws.{fault_tolerance_of}
use Rattle.commonware_faults.proofs.faults.N5f1Faults.max_faults.Goals as goal

pub returns-clause-fits : goal.returns-clause-fits
returns-clause-fits g c = (fault_tolerance_of 5 _ _ (omega arith) (search rules) (search rules)).fits

pub returns-clause-greatest : goal.returns-clause-greatest
returns-clause-greatest g c = (fault_tolerance_of 5 _ _ (omega arith) (search rules) (search rules)).greatest

pub returns-clause-meets : goal.returns-clause-meets
returns-clause-meets g c = (fault_tolerance_of 5 _ _ (omega arith) (search rules) (search rules)).meets (omega arith)
