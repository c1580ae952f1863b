pub mod Arguments
pub mod Streams
pub mod Watch
