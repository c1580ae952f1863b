pub mod WeightShares
