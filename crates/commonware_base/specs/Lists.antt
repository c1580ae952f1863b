-- A list: its length, and then each item.
use Rattle.std.specs.Prelude.{◌≡◌, ℕ, ◌<◌, ◌^◌, List, ◌++◌, ◌⊎◌, length}
use Rattle.std.specs.List.{AllByRecursion, flat_map}
use Rattle.commonware_base.specs.Fault.{Fault, InvalidLength}
use Rattle.commonware_base.specs.Range.{Bounds, Within}
use Rattle.commonware_base.specs.Text.{Accepts}
use Rattle.commonware_base.specs.Varint.{varint, varint_fault}

-- the varint of the length, and then the bytes of each item
abbrev pub list_enc : {T : Type 0} → (T → List ℕ) → List T → List ℕ
list_enc enc items = varint (length items) ++ flat_map enc items

-- The length has a varint, and each item is writable.
pub record IsWritableList {T : Type 0} (Writable : T → Type 0) (items : List T) : Type 0 where
  pub short : length items < 2 ^ 32
  pub each : AllByRecursion Writable items

-- The length is in the range, and each item is allowed.
pub record IsAllowedList {T : Type 0} (range : Bounds ℕ) (Allowed : T → Type 0) (items : List T) : Type 0 where
  pub in_range : Within range (length items)
  pub each : AllByRecursion Allowed items

-- The input begins with a length that is out of the range.
pub record BeginsOutOfRange (range : Bounds ℕ) (text : List ℕ) (count : ℕ) : Type 0 where
  pub rest : List ℕ
  pub short : count < 2 ^ 32
  pub begins : text ≡ varint count ++ rest
  pub outside : ¬ Within range count

-- The input begins with a length, then come fewer items than that, and then a fault of an item.
pub record BeginsWithFaultyItem {T : Type 0} (enc : T → List ℕ) (Writable Allowed : T → Type 0)
    (item_fault : List ℕ → Fault → Type 0) (range : Bounds ℕ) (text : List ℕ) (fault : Fault) : Type 0 where
  pub count : ℕ
  pub items : List T
  pub rest : List ℕ
  pub short : count < 2 ^ 32
  pub in_range : Within range count
  pub begins : text ≡ varint count ++ (flat_map enc items ++ rest)
  pub fewer : length items < count
  pub writable : AllByRecursion Writable items
  pub allowed : AllByRecursion Allowed items
  pub faulty : item_fault rest fault

-- The fault of an input that should begin with a list: of its length's varint, of its length, or of an item.
pub data ListFault {T : Type 0} (enc : T → List ℕ) (Writable Allowed : T → Type 0)
    (item_fault : List ℕ → Fault → Type 0) (range : Bounds ℕ) (text : List ℕ) (fault : Fault) : Type 0 where
  bad_varint : varint_fault text fault → ListFault enc Writable Allowed item_fault range text fault
  bad_length : (count : ℕ) → fault ≡ InvalidLength count → BeginsOutOfRange range text count
      → ListFault enc Writable Allowed item_fault range text fault
  bad_item : BeginsWithFaultyItem enc Writable Allowed item_fault range text fault
      → ListFault enc Writable Allowed item_fault range text fault

-- The error cases of an input that should begin with a list.
pub data ListCase : Type 0 where
  at_varint : ListCase
  at_length : ListCase
  at_item : ListCase

-- the error case of a fault
abbrev pub list_case :
    {T : Type 0} {enc : T → List ℕ} {Writable Allowed : T → Type 0} {item_fault : List ℕ → Fault → Type 0}
    {range : Bounds ℕ} {text : List ℕ} {fault : Fault} → ListFault enc Writable Allowed item_fault range text fault
    → ListCase
list_case (bad_varint w) = at_varint
list_case (bad_length count same w) = at_length
list_case (bad_item w) = at_item

-- A list is decoded or refused without an allocation where its length is wrong or 0, or where its first item is refused
-- so.
pub data IsListMemoryFree (item_fault : List ℕ → Fault → Type 0) (ItemMemoryFree : List ℕ → Type 0) (range : Bounds ℕ)
    (text : List ℕ) : Type 0 where
  faulty_varint : (fault : Fault) → varint_fault text fault → IsListMemoryFree item_fault ItemMemoryFree range text
  outside : (count : ℕ) → BeginsOutOfRange range text count → IsListMemoryFree item_fault ItemMemoryFree range text
  empty : (rest : List ℕ) → text ≡ varint 0 ++ rest → IsListMemoryFree item_fault ItemMemoryFree range text
  first : (count : ℕ) (rest : List ℕ) (fault : Fault) → count < 2 ^ 32 → text ≡ varint count ++ rest
      → ItemMemoryFree rest → item_fault rest fault → IsListMemoryFree item_fault ItemMemoryFree range text

-- Fewer than `count` items come, and then bytes with a fault of an item.
pub record ItemsFault {T : Type 0} (enc : T → List ℕ) (Writable Allowed : T → Type 0)
    (item_fault : List ℕ → Fault → Type 0) (count : ℕ) (text : List ℕ) (fault : Fault) : Type 0 where
  pub items : List T
  pub rest : List ℕ
  pub begins : text ≡ flat_map enc items ++ rest
  pub fewer : length items < count
  pub writable : AllByRecursion Writable items
  pub allowed : AllByRecursion Allowed items
  pub faulty : item_fault rest fault

-- `count` items are decoded or refused without an allocation where `count` is 0, or where no item comes first and that
-- is found without an allocation.
abbrev pub IsItemsMemoryFree : {T : Type 0} → (T → List ℕ) → (T → Type 0) → (T → Type 0) → (List ℕ → Type 0) → ℕ
    → List ℕ → Type 0
IsItemsMemoryFree {T} enc Writable Allowed ItemMemoryFree count text =
    (count ≡ 0) ⊎ (ItemMemoryFree text × ¬ ((v : T) × (rest : List ℕ) × Accepts enc Writable Allowed text v rest))
