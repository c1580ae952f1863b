pub mod CommitteePrefixes
pub mod Counts
pub mod Ends
pub mod Numbers
pub mod Refusals
pub mod Words
