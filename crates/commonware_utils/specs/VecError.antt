-- The errors of `vec`.
pub use Rattle.commonware_vec.specs.declared.error.Error.{Error}
pub use Rattle.commonware_vec.specs.declared.error.Error.TheVariants.{Empty, Memory}
