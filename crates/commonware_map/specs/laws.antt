pub mod LookupLaws
pub mod MapLaws
pub mod PairLaws
