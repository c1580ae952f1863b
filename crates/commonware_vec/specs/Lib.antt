pub mod Closures
pub mod Borrows
pub mod Mutate
pub mod NonEmpty
pub mod Queues
pub mod Refusals
pub mod laws
