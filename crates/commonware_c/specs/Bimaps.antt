-- The encoding of a bimap of keys and values, each of one size, with its pairs.
use Rattle.std.specs.Prelude.{ℕ, List}
use Rattle.std.specs.Map.{values_of}
use Rattle.commonware_base.specs.Range.{Bounds}
use Rattle.commonware_views.specs.Maps.{IsSizedMapOf}
use Rattle.commonware_views.specs.Repeats.{AreDistinct}

-- s is the encoding of a bimap, which is a map of which no two values are the same, and then rest
pub record IsSizedBiMapOf (key_size value_size : ℕ) (range : Bounds ℕ) (s : List ℕ) (pairs : List (List ℕ × List ℕ))
    (rest : List ℕ) : Type 0 where
  pub map : IsSizedMapOf key_size value_size range s pairs rest
  pub distinct : AreDistinct (values_of pairs)

-- s begins with a map, of whose pairs a fact holds
abbrev pub BeginsWithMap : ℕ → ℕ → Bounds ℕ → List ℕ → (List (List ℕ × List ℕ) → Type 0) → Type 0
BeginsWithMap key_size value_size range s Holds =
    (pairs : List (List ℕ × List ℕ)) × (rest : List ℕ)
    × IsSizedMapOf key_size value_size range s pairs rest × Holds pairs
