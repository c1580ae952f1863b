pub mod FixedBytesLaws
pub mod U64Laws
