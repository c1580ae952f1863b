pub mod NonEmptyLaws
pub mod QueueLaws
