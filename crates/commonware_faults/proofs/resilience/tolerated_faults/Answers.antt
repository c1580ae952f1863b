-- Division is the fault tolerance of every k.
use Rattle.commonware_faults.specs.laws.ToleranceLaws.{fault_tolerance}
use Rattle.commonware_faults.proofs.resilience.tolerated_faults.Goals as goal

pub returns : goal.returns
returns c = fault_tolerance c.args.k c.args.n c.requires.resilience c.requires.some
