pub mod Accountability
pub mod Keyed
pub mod Members
pub mod Refusals
pub mod Refutations
pub mod Searches
pub mod Tolerance
pub mod Weights
