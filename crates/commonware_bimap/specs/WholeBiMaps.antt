-- What the builders of bimaps return: all pairs in the order of their keys, or why there are none. Keys come before
-- values.
use Rattle.std.specs.Prelude.{◌≤◌, Bool, List, MatchResult, Result, length}
use Rattle.std.specs.Map.{values_of}
use Rattle.std.specs.declared.cmp.Ordering.{Ordering}
use Rattle.commonware_map.specs.Pairs.{on_keys}
use Rattle.commonware_ordered.specs.Whole.{HasEqualItems, IsSetOfAll, IsSetOfClones, MatchError}
use Rattle.commonware_ordered.specs.declared.error.Error.{Error}

-- two positions of l hold equal keys
abbrev pub HasEqualKeys : {K V : Type 0} → (K → K → Bool) → List (K × V) → Type 0
HasEqualKeys key_eq l = HasEqualItems (on_keys key_eq) l

-- two positions of l hold equal values
abbrev pub HasEqualValues : {K V : Type 0} → (V → V → Bool) → List (K × V) → Type 0
HasEqualValues value_eq l = HasEqualItems value_eq (values_of l)

-- m has all of l in order, and no two positions of l hold equal keys or equal values
abbrev pub IsBiMapOfAll : {K V : Type 0} → (K → K → Bool) → (K → K → Ordering) → (V → V → Bool) → List (K × V)
    → List (K × V) → Type 0
IsBiMapOfAll key_eq key_cmp value_eq l m =
    IsSetOfAll (on_keys key_eq) (on_keys key_cmp) l m × (¬ HasEqualValues value_eq l)

-- l is refused since two of its positions hold equal keys; or since none do, Whole holds, and two positions hold equal
-- values; or since an allocation failed, which is only where l has a pair
abbrev pub IsRefusedBiMap : {K V : Type 0} → (K → K → Bool) → (V → V → Bool) → Type 0 → List (K × V) → Error → Type 0
IsRefusedBiMap key_eq value_eq Whole l error =
    MatchError error (HasEqualKeys key_eq l) (HasEqualValues value_eq l × (¬ HasEqualKeys key_eq l) × Whole)
    (1 ≤ length l)

-- the bimap of all of l, or why there is none
abbrev pub IsWholeBiMap : {K V : Type 0} → (K → K → Bool) → (K → K → Ordering) → (V → V → Bool) → List (K × V)
    → Result (List (K × V)) Error → Type 0
IsWholeBiMap key_eq key_cmp value_eq l result =
    MatchResult result (IsBiMapOfAll key_eq key_cmp value_eq l) (IsRefusedBiMap key_eq value_eq (Unit {0}) l)

-- m has clones of all of l in order, and no two positions of l hold equal keys or equal values
abbrev pub IsBiMapOfClones : {K V : Type 0} → (K → K → Bool) → (K → K → Ordering) → (V → V → Bool)
    → (K × V → K × V → Type 0) → List (K × V) → List (K × V) → Type 0
IsBiMapOfClones key_eq key_cmp value_eq Clone l m =
    IsSetOfClones (on_keys key_eq) (on_keys key_cmp) Clone l m × (¬ HasEqualValues value_eq l)

-- the bimap of clones of all of l, or why there is none
abbrev pub IsWholeBiMapOfClones : {K V : Type 0} → (K → K → Bool) → (K → K → Ordering) → (V → V → Bool)
    → (K × V → K × V → Type 0) → List (K × V) → Result (List (K × V)) Error → Type 0
IsWholeBiMapOfClones key_eq key_cmp value_eq Clone l result =
    MatchResult result (IsBiMapOfClones key_eq key_cmp value_eq Clone l) (IsRefusedBiMap key_eq value_eq (Unit {0}) l)
