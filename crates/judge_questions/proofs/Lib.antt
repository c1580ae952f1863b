pub mod AllocationFailure
pub mod Digits
pub mod FormLemmas
pub mod HexLemmas
pub mod RangeLemmas
pub mod RangesRead
pub mod Splits
pub mod VerbLemmas
