pub mod SubsetLaws
pub mod SubsetSizeLaws
pub mod ToleranceLaws
