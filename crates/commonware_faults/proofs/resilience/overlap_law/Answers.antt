-- The sizes of two subsets, and those at the two ends.
use Rattle.std.proofs.Common.{◌-◌, arith}
use Rattle.commonware_faults.specs.laws.SubsetLaws.{Overlap-at_ends, MeetsOutside-by_thirds}
use Rattle.commonware_faults.specs.laws.ToleranceLaws.{quorums_share}
use Rattle.commonware_faults.proofs.resilience.overlap_law.Goals as goal

pub returns-clause-shares : goal.returns-clause-shares
returns-clause-shares g c = λ n. quorums_share n (g.M.Faults.faults n)

pub returns-clause-most : goal.returns-clause-most
returns-clause-most g c = λ n some short s h.
    let f = g.M.Faults.faults n in
    omega (arith, Overlap-at_ends n (n - f) (n - f) s (omega arith) (omega arith) h, g.met.M.Faults.at_most n some short)

pub returns-clause-meets : goal.returns-clause-meets
returns-clause-meets g c = λ n h. MeetsOutside-by_thirds n (g.M.Faults.faults n) h
