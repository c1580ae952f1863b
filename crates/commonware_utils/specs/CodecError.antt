-- The errors of `codec`, apart from the definitions of `codec`, whose faults have their names.
pub use Rattle.commonware_base.specs.declared.codec.error.Error.{Error}
pub use Rattle.commonware_base.specs.declared.codec.error.Error.TheVariants.{EndOfBuffer, Invalid}
pub use Rattle.commonware_base.specs.declared.codec.error.Error.TheVariants.{InvalidLength}
pub use Rattle.commonware_base.specs.declared.codec.error.Error.TheVariants.{InvalidVarint, Memory}
