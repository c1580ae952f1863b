pub mod ItemLaws
pub mod PlaceLaws
pub mod ViewLaws
