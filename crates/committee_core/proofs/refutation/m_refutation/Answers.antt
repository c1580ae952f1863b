-- The sizes of the two ranges, and how many places they share, are differences.
use Rattle.std.proofs.Common.{arith}
use Rattle.commonware_faults.specs.laws.SubsetSizeLaws.{size-places, shared-places}
use Rattle.committee_core.proofs.refutation.m_refutation.Goals as goal

pub returns-clause-first_size : goal.returns-clause-first_size
returns-clause-first_size c = omega (arith, size-places)

pub returns-clause-second_size : goal.returns-clause-second_size
returns-clause-second_size c = omega (arith, size-places)

pub returns-clause-shared : goal.returns-clause-shared
returns-clause-shared c = omega (arith, c.saturating_sub.ensures, shared-places)
