pub mod Builts
pub mod Judged
pub mod Needs
pub mod Results
pub mod Seen
pub mod Taken
pub mod Writable
