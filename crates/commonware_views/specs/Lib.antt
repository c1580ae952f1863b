pub mod Costs
pub mod Lists
pub mod Maps
pub mod Repeats
pub mod Sets
pub mod laws
