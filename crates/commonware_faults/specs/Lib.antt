pub mod Counts
pub mod Subsets
pub mod Tolerance
pub mod laws
