-- The definitions of `views`: lists, sets and maps of byte sequences of one size, the first faults of inputs that begin
-- with none, the first key out of order, why bytes are no whole items, where items stand, and which repeat.
pub use Rattle.commonware_views.specs.Lists.{Any, AreItemsOf, IsGapFor, IsListOf, IsNotWhole, StandBy, list_fault}
pub use Rattle.commonware_views.specs.Maps.{IsSizedMapOf, sized_map_fault}
pub use Rattle.commonware_views.specs.Repeats.{AreDistinct, AreInOrder, IsFirstRepeat, IsNoRoom, place_cmp}
pub use Rattle.commonware_views.specs.Sets.{IsKeySetOf, IsOutOfOrderAt, key_set_fault}
pub use Rattle.commonware_views.specs.declared.list.NotWhole.{NotWhole}
pub use Rattle.commonware_views.specs.declared.list.NotWhole.TheVariants.{LeftOver, NoSize}
pub use Rattle.commonware_views.specs.declared.repeats.NoRoom.{NoRoom}
pub use Rattle.commonware_views.specs.declared.repeats.NoRoom.TheVariants.{Short, TooMany}
