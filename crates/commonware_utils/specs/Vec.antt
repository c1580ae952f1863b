-- The definitions of `vec`: lists with an item, their faults and error cases, queues, mutable borrows and closures.
pub use Rattle.commonware_vec.specs.Closures.{AppendsAnswers, CallableTimes, CalledWith}
pub use Rattle.commonware_vec.specs.Closures.{CalledWithNothing, TakesNothing, TakesWith}
pub use Rattle.commonware_vec.specs.Borrows.{BorrowsItemAt, BorrowsItems, BorrowsItemsTo}
pub use Rattle.commonware_vec.specs.Mutate.{LeavesSome, ReturnsAtItems, TakesItems}
pub use Rattle.commonware_vec.specs.NonEmpty.{BeginsEmpty, IsWritableNonEmpty, empty_fault}
pub use Rattle.commonware_vec.specs.NonEmpty.{NonEmptyFault, bad_list, no_items}
pub use Rattle.commonware_vec.specs.NonEmpty.{NonEmptyCase, at_end, at_list, non_empty_case}
pub use Rattle.commonware_vec.specs.Refusals.{EmptyOrMemory, IsAll, IsRefusedForDrawn}
pub use Rattle.commonware_vec.specs.Refusals.{IsWholeOfClones}
pub use Rattle.commonware_vec.specs.Queues.{Queue}
pub use Rattle.commonware_vec.specs.laws.QueueLaws.{capacities_alike}
