-- The encoding of a set, which is that of the list of its items.
use Rattle.std.specs.Prelude.{◌≡◌, ℕ, List, ◌++◌, codes}
use Rattle.std.specs.declared.cmp.Ordering.{Ordering}
use Rattle.commonware_base.specs.Range.{Bounds}
use Rattle.commonware_base.specs.Fault.{Fault, Invalid}
use Rattle.commonware_base.specs.Lists.{list_enc, IsWritableList, IsAllowedList, ListFault}
use Rattle.commonware_ordered.specs.Strict.{IsStrict}

-- A set can be written where it can be written as a list. Its items are strictly increasing, as those of every set are.
pub record IsWritableSet {T : Type 0} (Writable : T → Type 0) (cmp : T → T → Ordering) (items : List T) : Type 0 where
  pub list : IsWritableList Writable items
  pub strict : IsStrict cmp items

-- The input begins with a writable, allowed list that isn't strictly increasing.
pub record BeginsUnsorted {T : Type 0} (enc : T → List ℕ) (Writable : T → Type 0) (cmp : T → T → Ordering)
    (Allowed : T → Type 0) (range : Bounds ℕ) (text : List ℕ) : Type 0 where
  pub items : List T
  pub rest : List ℕ
  pub begins : text ≡ list_enc enc items ++ rest
  pub writable : IsWritableList Writable items
  pub allowed : IsAllowedList range Allowed items
  pub unsorted : ¬ IsStrict cmp items

-- the words of the fault of a list that isn't strictly increasing
abbrev pub unsorted_fault : Fault
unsorted_fault = Invalid (codes "Set") (codes "items must be sorted and unique")

-- The first fault of an input that should begin with a set: that of the list; then, where there is none, that the list
-- isn't strictly increasing.
pub data SetFault {T : Type 0} (enc : T → List ℕ) (Writable : T → Type 0) (cmp : T → T → Ordering)
    (Allowed : T → Type 0) (item_fault : List ℕ → Fault → Type 0) (range : Bounds ℕ) (text : List ℕ) (fault : Fault) :
    Type 0 where
  bad_list : ListFault enc Writable Allowed item_fault range text fault
      → SetFault enc Writable cmp Allowed item_fault range text fault
  bad_order : fault ≡ unsorted_fault → BeginsUnsorted enc Writable cmp Allowed range text
      → SetFault enc Writable cmp Allowed item_fault range text fault

-- The error cases of an input that should begin with a set.
pub data SetCase : Type 0 where
  at_list : SetCase
  at_order : SetCase

-- the error case of a fault
abbrev pub set_case :
    {T : Type 0} {enc : T → List ℕ} {Writable : T → Type 0} {cmp : T → T → Ordering} {Allowed : T → Type 0}
    {item_fault : List ℕ → Fault → Type 0} {range : Bounds ℕ} {text : List ℕ} {fault : Fault}
    → SetFault enc Writable cmp Allowed item_fault range text fault → SetCase
set_case (bad_list w) = at_list
set_case (bad_order same w) = at_order
