-- What the builders make of an input that lists items in any order, with repeats.
use Rattle.std.specs.Prelude.{◌≡◌, ◌⊎◌, ℕ, Bool, true, false, List, Result, Ok, Err, zip}
use Rattle.std.specs.declared.cmp.Ordering.{Ordering}
use Rattle.commonware_utils.specs.Codec.{Bounds, list_enc}
use Rattle.commonware_utils.specs.Ordered.{HasEqualItems, HasEqualKeys, HasEqualValues, IsBiMapOfAll, IsDedup}
use Rattle.commonware_utils.specs.Ordered.{IsSetOfAll, map_enc, on_keys}
use Rattle.judge_verdicts.specs.Columns.{columns_of}
use Rattle.judge_verdicts.specs.Readings.{Reading, list_of}
use Rattle.judge_verdicts.specs.Whole.{IsMisread, IsWhole}
use Rattle.judge_verdicts.specs.declared.sets.NotBuilt.{NotBuilt}
use Rattle.judge_verdicts.specs.declared.sets.NotBuilt.TheVariants.{DuplicateKey, DuplicateValue, Unread}

-- the set of the items: all of them, where no two may be equal; else of equal ones the first
abbrev pub IsSetOf : {T : Type 0} → Bool → (T → T → Bool) → (T → T → Ordering) → List T → List T → Type 0
IsSetOf true eq cmp items set = IsSetOfAll eq cmp items set
IsSetOf false eq cmp items set = IsDedup eq cmp items set

-- what is built of the items: the bytes of their set; or two are equal, where none may be
abbrev pub IsSetMade : {T : Type 0} → Bool → (T → List ℕ) → (T → T → Bool) → (T → T → Ordering) → List T
    → Result (List ℕ) NotBuilt → Type 0
IsSetMade {T} unique enc eq cmp items (Ok bytes) =
    (set : List T) × IsSetOf unique eq cmp items set × (bytes ≡ list_enc enc set)
IsSetMade unique enc eq cmp items (Err DuplicateKey) = (unique ≡ true) × HasEqualItems eq items
IsSetMade unique enc eq cmp items (Err DuplicateValue) = ⊥
IsSetMade unique enc eq cmp items (Err (Unread what)) = ⊥

-- what is built of the value whose encoding the input is, of which Made holds; or it is that of none, for this reason
abbrev pub IsBuiltFrom : (r : Reading) → (r.Value → Result (List ℕ) NotBuilt → Type 0) → List ℕ
    → Result (List ℕ) NotBuilt → Type 0
IsBuiltFrom r Made text (Ok bytes) = (value : r.Value) × IsWhole r text value × Made value (Ok bytes)
IsBuiltFrom r Made text (Err DuplicateKey) = (value : r.Value) × IsWhole r text value × Made value (Err DuplicateKey)
IsBuiltFrom r Made text (Err DuplicateValue) =
    (value : r.Value) × IsWhole r text value × Made value (Err DuplicateValue)
IsBuiltFrom r Made text (Err (Unread what)) = IsMisread r text what

-- what is built as a set of items: the input lists them
abbrev pub IsSetBuilt : Bool → Bounds ℕ → (item : Reading) → (item.Value → item.Value → Bool)
    → (item.Value → item.Value → Ordering) → List ℕ → Result (List ℕ) NotBuilt → Type 0
IsSetBuilt unique range item eq cmp text built =
    IsBuiltFrom (list_of range item) (IsSetMade unique item.enc eq cmp) text built

-- an allocation may fail as the input is read, or as what it lists is built
abbrev pub MayFailToAllocateToBuild : Reading → List ℕ → Type 0
MayFailToAllocateToBuild r text = (¬ r.MemoryFree text) ⊎ ((value : r.Value) × IsWhole r text value)

-- what is built of pairs as a map: of equal keys the first pair stays, or they are refused
abbrev pub IsMapMade : {K V : Type 0} → Bool → (K → List ℕ) → (V → List ℕ) → (K → K → Bool) → (K → K → Ordering)
    → List (K × V) → Result (List ℕ) NotBuilt → Type 0
IsMapMade {K} {V} unique key_enc value_enc eq cmp pairs (Ok bytes) =
    (map : List (K × V)) × IsSetOf unique (on_keys eq) (on_keys cmp) pairs map
    × (bytes ≡ map_enc key_enc value_enc map)
IsMapMade unique key_enc value_enc eq cmp pairs (Err DuplicateKey) = (unique ≡ true) × HasEqualKeys eq pairs
IsMapMade unique key_enc value_enc eq cmp pairs (Err DuplicateValue) = ⊥
IsMapMade unique key_enc value_enc eq cmp pairs (Err (Unread what)) = ⊥

-- what is built of them as a bimap, of all of them: equal keys are refused, and then equal values
abbrev pub IsBiMapMade : {K V : Type 0} → (K → List ℕ) → (V → List ℕ) → (K → K → Bool) → (K → K → Ordering)
    → (V → V → Bool) → List (K × V) → Result (List ℕ) NotBuilt → Type 0
IsBiMapMade {K} {V} key_enc value_enc eq cmp value_eq pairs (Ok bytes) =
    (map : List (K × V)) × IsBiMapOfAll eq cmp value_eq pairs map × (bytes ≡ map_enc key_enc value_enc map)
IsBiMapMade key_enc value_enc eq cmp value_eq pairs (Err DuplicateKey) = HasEqualKeys eq pairs
IsBiMapMade key_enc value_enc eq cmp value_eq pairs (Err DuplicateValue) =
    HasEqualValues value_eq pairs × (¬ HasEqualKeys eq pairs)
IsBiMapMade key_enc value_enc eq cmp value_eq pairs (Err (Unread what)) = ⊥

-- what is built as a map: the input lists keys and then the value of each
abbrev pub IsMapBuilt : Bool → Bounds ℕ → (key value : Reading) → (key.Value → key.Value → Bool)
    → (key.Value → key.Value → Ordering) → List ℕ → Result (List ℕ) NotBuilt → Type 0
IsMapBuilt unique range key value eq cmp text built =
    IsBuiltFrom (columns_of range key value)
    (λ columns. IsMapMade unique key.enc value.enc eq cmp (zip columns.0 columns.1)) text built

-- what is built as a bimap
abbrev pub IsBiMapBuilt : Bounds ℕ → (key value : Reading) → (key.Value → key.Value → Bool)
    → (key.Value → key.Value → Ordering) → (value.Value → value.Value → Bool) → List ℕ
    → Result (List ℕ) NotBuilt → Type 0
IsBiMapBuilt range key value eq cmp value_eq text built =
    IsBuiltFrom (columns_of range key value)
    (λ columns. IsBiMapMade key.enc value.enc eq cmp value_eq (zip columns.0 columns.1)) text built
