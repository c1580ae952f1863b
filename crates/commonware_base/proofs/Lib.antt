pub mod ByteSteps
pub mod Errors
pub mod ListSteps
pub mod ReadSteps
pub mod RoundTrip
pub mod SourceLemmas
pub mod UnionLemmas
