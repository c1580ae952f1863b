-- The faults are (n - 1) / k.
use Rattle.commonware_faults.specs.laws.ToleranceLaws.{fault_tolerance_of}
use Rattle.commonware_faults.proofs.resilience.resilience_law.Goals as goal

pub returns : goal.returns
returns g c =
    let law = g.met.M.Resilience.divides in
    λ n some short. fault_tolerance_of g.M.Resilience.factor n (g.M.Faults.faults n) law.0 some (law.1 n some short)
