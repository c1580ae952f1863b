-- Byte sequences of one size that follow one another.
use Rattle.std.specs.Prelude.{◌≡◌, ◌≢◌, ℕ, ◌+◌, ◌*◌, ◌-◌, ◌%◌, ◌<◌, ◌≤◌, List, Some, drop, length, slice_get, take}
use Rattle.std.specs.List.{AllByRecursion, HoldsAt, flat_map}
use Rattle.std.specs.declared.cmp.Ordering.TheVariants.{Less, Greater}
use Rattle.commonware_base.specs.Fault.{Fault}
use Rattle.commonware_base.specs.Lists.{list_enc, IsAllowedList, IsWritableList, ListFault}
use Rattle.commonware_base.specs.Range.{Bounds}
use Rattle.commonware_base.specs.Text.{Accepts}
use Rattle.commonware_sequence.specs.FixedBytes.{IsOfSize, own_bytes, bytes_cmp, size_fault}
use Rattle.commonware_views.specs.declared.list.NotWhole.{NotWhole}
use Rattle.commonware_views.specs.declared.list.NotWhole.TheVariants.{NoSize, LeftOver}

-- every item is allowed
abbrev pub Any : List ℕ → Type 0
Any _ = Unit {0}

-- s is the encoding of a list of items of `size` bytes, as many as the range allows, and then rest
abbrev pub IsListOf : ℕ → Bounds ℕ → List ℕ → List (List ℕ) → List ℕ → Type 0
IsListOf size range s items rest =
    Accepts (list_enc own_bytes) (IsWritableList (IsOfSize size)) (IsAllowedList range Any) s items rest

-- the first fault of s, where s begins with no such list
abbrev pub list_fault : ℕ → Bounds ℕ → List ℕ → Fault → Type 0
list_fault size = ListFault own_bytes (IsOfSize size) Any (size_fault size)

-- the items have `size` bytes each, and s is these items, one after another
pub record AreItemsOf (size : ℕ) (s : List ℕ) (items : List (List ℕ)) : Type 0 where
  pub each : AllByRecursion (λ item. length item ≡ size) items
  pub together : flat_map own_bytes items ≡ s

-- why s is no items of `size` bytes, one after another
abbrev pub IsNotWhole : ℕ → List ℕ → NotWhole → Type 0
IsNotWhole size s NoSize = size ≡ 0
IsNotWhole size s (LeftOver n) = (size ≢ 0) × (0 < n) × (n ≡ length s % size)

-- the key is greater than the item before the index, and less than the one at it, where these are
pub record IsGapFor (key : List ℕ) (items : List (List ℕ)) (index : ℕ) : Type 0 where
  pub within : index ≤ length items
  pub above : 0 < index → HoldsAt (λ item. bytes_cmp item key ≡ Less) items (index - 1)
  pub below : index < length items → HoldsAt (λ item. bytes_cmp item key ≡ Greater) items index

-- each item is the `size` bytes of s at its index, counted in items from start on
abbrev pub StandBy : ℕ → List ℕ → ℕ → List (List ℕ) → Type 0
StandBy size s start items =
    (i : ℕ) (item : List ℕ) → slice_get items i ≡ Some item → take size (drop (start + i * size) s) ≡ item
