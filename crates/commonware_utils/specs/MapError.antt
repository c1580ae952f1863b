-- The errors of value maps.
pub use Rattle.commonware_map.specs.declared.map_error.MapError.{MapError}
pub use Rattle.commonware_map.specs.declared.map_error.MapError.TheVariants.{Closure, Memory}
