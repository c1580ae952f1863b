pub mod BigEndian
pub mod FixedBytes
pub mod Hex
pub mod U64
pub mod laws
