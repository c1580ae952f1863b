-- Twice the faults and one more is the least size, and what is least shares enough.
use Rattle.std.proofs.Common.{rules}
use Rattle.commonware_faults.specs.Counts.{amount}
use Rattle.commonware_faults.specs.laws.SubsetLaws.{LeastM-shares}
use Rattle.commonware_faults.specs.laws.ToleranceLaws.{fault_tolerance_of}
use Rattle.commonware_faults.proofs.resilience.smaller_quorum.Goals as goal

pub returns-clause-least : goal.returns-clause-least
returns-clause-least g c =
    let n = amount (g.N.Count.number c.args.n) in
    let law = g.met.M.Resilience.divides in
    let divides = law.1 n (search rules) (search rules) in
    rw c.max_faults.ensures.faults
    (fault_tolerance_of g.M.Resilience.factor n (g.M.Faults.faults n) law.0 (search rules) divides).least_m

pub returns-clause-shares : goal.returns-clause-shares
returns-clause-shares g c = LeastM-shares _ _ _ (search rules) (returns-clause-least g c)
