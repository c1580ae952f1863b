pub mod Accountability
pub mod Encodings
pub mod Shares
pub mod Votes
pub mod laws
