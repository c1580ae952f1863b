-- The encoding of a non-empty list, which is that of the list of its items.
use Rattle.std.specs.Prelude.{◌≡◌, ◌≤◌, ℕ, List, ◌∷◌, codes, length}
use Rattle.commonware_base.specs.Range.{Bounds, Within}
use Rattle.commonware_base.specs.Fault.{Fault, Invalid}
use Rattle.commonware_base.specs.Lists.{IsWritableList, ListFault}

-- It can be written where it can be written as a list. It has an item, as each such list has.
pub record IsWritableNonEmpty {T : Type 0} (Writable : T → Type 0) (items : List T) : Type 0 where
  pub list : IsWritableList Writable items
  pub some : 1 ≤ length items

-- The input begins with a byte 0, which encodes the length 0, and that is in the range.
pub record BeginsEmpty (range : Bounds ℕ) (text : List ℕ) : Type 0 where
  pub rest : List ℕ
  pub begins : text ≡ 0 ∷ rest
  pub in_range : Within range 0

-- the words of the fault of a list without items
abbrev pub empty_fault : Fault
empty_fault = Invalid (codes "NonEmptyVec") (codes "cannot decode empty vector")

-- The first fault of an input that should begin with a list that isn't empty: that of the list; then, where there is
-- none, that the list is empty.
pub data NonEmptyFault {T : Type 0} (enc : T → List ℕ) (Writable Allowed : T → Type 0)
    (item_fault : List ℕ → Fault → Type 0) (range : Bounds ℕ) (text : List ℕ) (fault : Fault) : Type 0 where
  bad_list : ListFault enc Writable Allowed item_fault range text fault
      → NonEmptyFault enc Writable Allowed item_fault range text fault
  no_items : fault ≡ empty_fault → BeginsEmpty range text
      → NonEmptyFault enc Writable Allowed item_fault range text fault

-- The error cases of an input that should begin with a list that isn't empty.
pub data NonEmptyCase : Type 0 where
  at_list : NonEmptyCase
  at_end : NonEmptyCase

-- the error case of a fault
abbrev pub non_empty_case :
    {T : Type 0} {enc : T → List ℕ} {Writable Allowed : T → Type 0} {item_fault : List ℕ → Fault → Type 0}
    {range : Bounds ℕ} {text : List ℕ} {fault : Fault} → NonEmptyFault enc Writable Allowed item_fault range text fault
    → NonEmptyCase
non_empty_case (bad_list w) = at_list
non_empty_case (no_items same w) = at_end
