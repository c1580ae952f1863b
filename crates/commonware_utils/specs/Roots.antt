-- The definitions of the root: signed bytes, clones that are equal, what a collection's iterator gives, what is drawn
-- from an iterator, and what closures take and return.
pub use Rattle.commonware_base.specs.Calls.{CallableAlong, CallsGive, CallsGiveAll}
pub use Rattle.commonware_base.specs.laws.CallLaws.{answers_are}
pub use Rattle.commonware_base.specs.laws.CloneLaws.{equal_from_all_zip, equal_from_same}
pub use Rattle.commonware_base.specs.Given.{HandsOver, LetsWrite, Shows}
pub use Rattle.commonware_base.specs.Taken.{DrawsSome, IsMadeFrom, IsMadeOf, IsRefusalFrom, IsRefusalOf}
pub use Rattle.commonware_base.specs.Taken.{TakesAll, TakesSome}
pub use Rattle.commonware_base.specs.Unions.{union_text}
