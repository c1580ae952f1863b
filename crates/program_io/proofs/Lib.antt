pub mod ArgumentLemmas
pub mod Prefixes
pub mod OneWord
