pub mod Collections
pub mod Forms
pub mod Hex
pub mod Limits
pub mod Questions
pub mod Ranges
pub mod Tasks
pub mod Words
