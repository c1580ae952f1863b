pub mod Drawn
pub mod Repeats
pub mod Turned
