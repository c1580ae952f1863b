pub mod Answering
pub mod Asked
pub mod AskedByWeight
pub mod Freeness
pub mod Saying
pub mod Stopping
