pub mod BiMaps
pub mod Swapped
pub mod WholeBiMaps
pub mod laws
