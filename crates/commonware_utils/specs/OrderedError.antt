-- The errors of `ordered`, but for those of value maps.
pub use Rattle.commonware_ordered.specs.declared.error.Error.{Error}
pub use Rattle.commonware_ordered.specs.declared.error.Error.TheVariants.{DuplicateKey}
pub use Rattle.commonware_ordered.specs.declared.error.Error.TheVariants.{DuplicateValue, Memory}
