-- The encoding of a bimap, which is that of the map of its pairs.
use Rattle.std.specs.Prelude.{◌≡◌, ℕ, Bool, List, ◌++◌, codes}
use Rattle.std.specs.Map.{values_of}
use Rattle.std.specs.declared.cmp.Ordering.{Ordering}
use Rattle.commonware_base.specs.Range.{Bounds}
use Rattle.commonware_base.specs.Fault.{Fault, Invalid}
use Rattle.commonware_map.specs.Maps.{map_enc, IsAllowedMap, IsWritableMap, MapFault}
use Rattle.commonware_ordered.specs.Whole.{HasEqualItems}

-- A bimap can be written where it can be written as a map. No two of its values are equal, as those of every bimap.
pub record IsWritableBiMap {K V : Type 0} (KeyWritable : K → Type 0) (cmp : K → K → Ordering)
    (ValueWritable : V → Type 0) (value_eq : V → V → Bool) (m : List (K × V)) : Type 0 where
  pub map : IsWritableMap KeyWritable cmp ValueWritable m
  pub distinct : ¬ HasEqualItems value_eq (values_of m)

-- The input begins with a writable, allowed map of which two values are equal.
pub record BeginsRepeated {K V : Type 0} (key_enc : K → List ℕ) (KeyWritable : K → Type 0) (cmp : K → K → Ordering)
    (KeyAllowed : K → Type 0)
    (value_enc : V → List ℕ) (ValueWritable ValueAllowed : V → Type 0) (value_eq : V → V → Bool) (range : Bounds ℕ)
    (text : List ℕ) : Type 0 where
  pub pairs : List (K × V)
  pub rest : List ℕ
  pub begins : text ≡ map_enc key_enc value_enc pairs ++ rest
  pub writable : IsWritableMap KeyWritable cmp ValueWritable pairs
  pub allowed : IsAllowedMap range KeyAllowed ValueAllowed pairs
  pub repeated : HasEqualItems value_eq (values_of pairs)

-- the words of the fault of a map of which two values are equal
abbrev pub repeated_fault : Fault
repeated_fault = Invalid (codes "BiMap") (codes "duplicate value detected during deserialization")

-- The first fault of an input that should begin with a bimap: that of the map; then, where there is none, that two
-- values are equal.
pub data BiMapFault {K V : Type 0} (key_enc : K → List ℕ) (KeyWritable : K → Type 0) (cmp : K → K → Ordering)
    (KeyAllowed : K → Type 0) (key_fault : List ℕ → Fault → Type 0)
    (value_enc : V → List ℕ) (ValueWritable ValueAllowed : V → Type 0) (value_fault : List ℕ → Fault → Type 0)
    (value_eq : V → V → Bool) (range : Bounds ℕ) (text : List ℕ) (fault : Fault) : Type 0 where
  bad_map :
      MapFault key_enc KeyWritable cmp KeyAllowed key_fault value_enc ValueWritable ValueAllowed value_fault range text
      fault
      → BiMapFault key_enc KeyWritable cmp KeyAllowed key_fault value_enc ValueWritable ValueAllowed value_fault
      value_eq range text fault
  bad_values :
      fault ≡ repeated_fault → BeginsRepeated key_enc KeyWritable cmp KeyAllowed value_enc ValueWritable ValueAllowed
      value_eq range text
      → BiMapFault key_enc KeyWritable cmp KeyAllowed key_fault value_enc ValueWritable ValueAllowed value_fault
      value_eq range text fault

-- The error cases of an input that should begin with a bimap.
pub data BiMapCase : Type 0 where
  at_map : BiMapCase
  at_values : BiMapCase

-- the error case of a fault
abbrev pub bimap_case :
    {K V : Type 0} {key_enc : K → List ℕ} {KeyWritable : K → Type 0} {cmp : K → K → Ordering} {KeyAllowed : K → Type 0}
    {key_fault : List ℕ → Fault → Type 0}
    {value_enc : V → List ℕ} {ValueWritable ValueAllowed : V → Type 0} {value_fault : List ℕ → Fault → Type 0}
    {value_eq : V → V → Bool} {range : Bounds ℕ} {text : List ℕ} {fault : Fault}
    → BiMapFault key_enc KeyWritable cmp KeyAllowed key_fault value_enc ValueWritable ValueAllowed value_fault value_eq
    range text fault → BiMapCase
bimap_case (bad_map w) = at_map
bimap_case (bad_values same w) = at_values
