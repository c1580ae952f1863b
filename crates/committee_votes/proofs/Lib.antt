pub mod FoundVote
pub mod Reading
pub mod Sharing
pub mod Signing
