-- The lemmas of every k.
use Rattle.commonware_faults.specs.laws.ToleranceLaws.{fault_tolerance, Greatest-by_fit, Greatest-fit, LeastM-is}
use Rattle.commonware_faults.specs.laws.ToleranceLaws.{Greatest3-by_any, Greatest-three}
use Rattle.commonware_faults.proofs.resilience.counting_law.Goals as goal

pub returns-clause-tolerance : goal.returns-clause-tolerance
returns-clause-tolerance c = fault_tolerance

pub returns-clause-fit : goal.returns-clause-fit
returns-clause-fit c = λ k n f two. (Greatest-fit k n f two, Greatest-by_fit k n f two)

pub returns-clause-three : goal.returns-clause-three
returns-clause-three c = λ n f. (Greatest-three n f, Greatest3-by_any n f)

pub returns-clause-five : goal.returns-clause-five
returns-clause-five c = λ n f. (λ h. h, λ h. h)

pub returns-clause-least : goal.returns-clause-least
returns-clause-least c = LeastM-is
