-- The encoding of a map of keys and values, each of one size.
use Rattle.std.specs.Prelude.{ℕ, List}
use Rattle.commonware_base.specs.Fault.{Fault}
use Rattle.commonware_base.specs.Range.{Bounds}
use Rattle.commonware_base.specs.Text.{Accepts}
use Rattle.commonware_map.specs.Maps.{map_enc, IsWritableMap, IsAllowedMap, MapFault}
use Rattle.commonware_sequence.specs.FixedBytes.{IsOfSize, own_bytes, bytes_cmp, size_fault}
use Rattle.commonware_views.specs.Lists.{Any}

-- s is the encoding of a map of keys and values of these sizes, of as many pairs as the range allows, and then rest
abbrev pub IsSizedMapOf : ℕ → ℕ → Bounds ℕ → List ℕ → List (List ℕ × List ℕ) → List ℕ → Type 0
IsSizedMapOf key_size value_size range s pairs rest =
    Accepts (map_enc own_bytes own_bytes) (IsWritableMap (IsOfSize key_size) bytes_cmp (IsOfSize value_size))
    (IsAllowedMap range Any Any) s pairs rest

-- the first fault of s, where s begins with no such map
abbrev pub sized_map_fault : ℕ → ℕ → Bounds ℕ → List ℕ → Fault → Type 0
sized_map_fault key_size value_size =
    MapFault own_bytes (IsOfSize key_size) bytes_cmp Any (size_fault key_size)
    own_bytes (IsOfSize value_size) Any (size_fault value_size)
