pub mod CostLaws
pub mod EqualItemLaws
pub mod PlaceLaws
pub mod PositionLaws
pub mod SetLaws
pub mod SetPrefixLaws
pub mod StrictLaws
pub mod WholeLaws
