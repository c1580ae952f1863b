-- The position of an item in a set, both of which are encodings.
use Rattle.std.specs.Prelude.{◌⊎◌, ℕ, Bool, None, List}
use Rattle.std.specs.declared.cmp.Ordering.{Ordering}
use Rattle.commonware_utils.specs.Codec.{Bounds}
use Rattle.commonware_utils.specs.Ordered.{HasEqualAt, IsPlaceOf}
use Rattle.judge_verdicts.specs.Readings.{Reading, set_of}
use Rattle.judge_verdicts.specs.Whole.{IsMisread, IsWhole}
use Rattle.judge_verdicts.specs.declared.places.Found.{Found}
use Rattle.judge_verdicts.specs.declared.places.Found.TheVariants.{At, Nowhere, Unread}

module _ (range : Bounds ℕ) (item : Reading) (eq : item.Value → item.Value → Bool)
    (cmp : item.Value → item.Value → Ordering) where
  -- an item that equals the one asked for is at the place; or none does; or one of the two isn't read, the set first
  abbrev pub IsFound : List ℕ → List ℕ → Found → Type 0
  IsFound set_text item_text (At place) =
      (set : List item.Value) × (x : item.Value) × IsWhole (set_of range item cmp) set_text set
      × IsWhole item item_text x × HasEqualAt eq set x place
  IsFound set_text item_text Nowhere =
      (set : List item.Value) × (x : item.Value) × IsWhole (set_of range item cmp) set_text set
      × IsWhole item item_text x × IsPlaceOf eq set x None
  IsFound set_text item_text (Unread what) =
      IsMisread (set_of range item cmp) set_text what
      ⊎ ((set : List item.Value) × IsWhole (set_of range item cmp) set_text set × IsMisread item item_text what)

-- an allocation may fail only where reading the set isn't memory-free, or where it is a set and reading the item isn't
abbrev pub MayFailToAllocateToFind : Bounds ℕ → (item : Reading) → (item.Value → item.Value → Ordering) → List ℕ
    → List ℕ → Type 0
MayFailToAllocateToFind range item cmp set_text item_text =
    (¬ (set_of range item cmp).MemoryFree set_text)
    ⊎ ((set : List item.Value) × IsWhole (set_of range item cmp) set_text set × (¬ item.MemoryFree item_text))
