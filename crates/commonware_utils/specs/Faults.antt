-- The definitions of `faults`: sizes of committees, subsets that overlap (quorum intersection), the steps of a size,
-- and the lemmas that (n - 1) / k is the greatest f at every k, of both models and of others.
pub use Rattle.commonware_faults.specs.Counts.{GreatestFit, IsCommitteeSize, IsU32, amount}
pub use Rattle.commonware_faults.specs.Counts.{n3f1_faults, n5f1_faults}
pub use Rattle.commonware_faults.specs.Subsets.{Greatest, Greatest3, Greatest5, GreatestFor, IsIn, IsOutside}
pub use Rattle.commonware_faults.specs.Subsets.{LeastM, MeetsOutside, Overlap, OverlapAtLeast}
pub use Rattle.commonware_faults.specs.Subsets.{passing, places, shared, size}
pub use Rattle.commonware_faults.specs.laws.SubsetSizeLaws.{size-append, size-cons, size-count_by, size-le-length}
pub use Rattle.commonware_faults.specs.laws.SubsetSizeLaws.{size-passing_more, size-take_more}
pub use Rattle.commonware_faults.specs.laws.ToleranceLaws.{Greatest-fit, Greatest-only, LeastM-is, fault_tolerance}
pub use Rattle.commonware_faults.specs.laws.ToleranceLaws.{fault_tolerance_of, greatest_at}
pub use Rattle.commonware_faults.specs.laws.ToleranceLaws.{n3f1_greatest, n5f1_greatest, quorums_share}
pub use Rattle.commonware_faults.specs.Tolerance.{IsFaultTolerance}
