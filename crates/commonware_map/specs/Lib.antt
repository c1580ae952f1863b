pub mod Borrows
pub mod Maps
pub mod Pairs
pub mod PairsMut
pub mod ValueCalls
pub mod ValueMaps
pub mod laws
