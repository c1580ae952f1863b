-- Items that stand twice in a list, and the positions of items in the order of the items.
use Rattle.std.specs.Prelude.{◌≡◌, ℕ, ◌^◌, ◌<◌, ◌≤◌, List, Some, length, nat_eq, slice_get, slice_index_or, take, []}
use Rattle.std.specs.Cmp.Lexicographic.{pointwise}
use Rattle.std.specs.List.{range_with_len}
use Rattle.std.specs.List.Sorted.{IsPermutation, IsSorted}
use Rattle.std.specs.Ordering.{nat_cmp, on, then_cmp}
use Rattle.std.specs.declared.cmp.Ordering.{Ordering}
use Rattle.commonware_ordered.specs.Whole.{HasEqualItems}
use Rattle.commonware_sequence.specs.FixedBytes.{bytes_cmp}
use Rattle.commonware_views.specs.declared.repeats.NoRoom.{NoRoom}
use Rattle.commonware_views.specs.declared.repeats.NoRoom.TheVariants.{Short, TooMany}

-- no two of the items are the same bytes
abbrev pub AreDistinct : List (List ℕ) → Type 0
AreDistinct items = ¬ HasEqualItems (pointwise nat_eq) items

-- The item at `second` stands earlier too, at `first`, and no item before it stands earlier.
pub record IsFirstRepeat (items : List (List ℕ)) (first second : ℕ) : Type 0 where
  pub earlier : first < second
  pub same : (item : List ℕ) × (slice_get items first ≡ Some item) × (slice_get items second ≡ Some item)
  pub distinct_before : AreDistinct (take second items)

-- positions are ordered by the items at them, and those of the same items by themselves
abbrev pub place_cmp : List (List ℕ) → ℕ → ℕ → Ordering
place_cmp items = then_cmp (on (λ place. slice_index_or items place []) bytes_cmp) nat_cmp

-- the places are the position of each item, once, in this order
pub record AreInOrder (items : List (List ℕ)) (places : List ℕ) : Type 0 where
  pub each : IsPermutation (range_with_len 0 (length items)) places
  pub sorted : IsSorted (place_cmp items) places

-- why the positions of `count` items don't go into a room of `places` numbers, each below 2 ^ 32
abbrev pub IsNoRoom : ℕ → ℕ → NoRoom → Type 0
IsNoRoom count places (Short needed) = (needed ≡ count) × (places < count)
IsNoRoom count places (TooMany items) = (items ≡ count) × (count ≤ places) × (2 ^ 32 < count)
