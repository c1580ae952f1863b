-- The encoding of a map: the list of its keys, and then the list of its values, each with its length.
use Rattle.std.specs.Prelude.{ℕ, ◌+◌, ◌*◌, List, length}
use Rattle.std.specs.Map.{keys_of, values_of}
use Rattle.std.specs.declared.cmp.Ordering.{Ordering}
use Rattle.commonware_base.specs.Range.{Bounds, exactly}
use Rattle.commonware_base.specs.Fault.{Fault}
use Rattle.commonware_base.specs.Lists.{list_enc, IsWritableList, IsAllowedList, ListFault}
use Rattle.commonware_base.specs.Sequence.{sequence_enc, IsWritableSequence, IsAllowedSequence, SequenceFault}
use Rattle.commonware_base.specs.Varint.{varint_size}
use Rattle.commonware_ordered.specs.Sets.{IsWritableSet, SetFault}

-- the keys, and the values
abbrev pub columns : {K V : Type 0} → List (K × V) → List K × List V
columns m = (keys_of m, values_of m)

-- the bytes of the list of keys, and then those of the list of values
abbrev pub map_enc : {K V : Type 0} → (K → List ℕ) → (V → List ℕ) → List (K × V) → List ℕ
map_enc key_enc value_enc m = sequence_enc (list_enc key_enc) (list_enc value_enc) (columns m)

-- the most bytes of len pairs, where a key takes at most `key` bytes, and a value at most `value`
abbrev pub map_size_bound : ℕ → ℕ → ℕ → ℕ
map_size_bound len key value = varint_size len + len * key + (varint_size len + len * value)

-- The keys can be written as a set, and the values as a list.
abbrev pub IsWritableMap : {K V : Type 0} → (K → Type 0) → (K → K → Ordering) → (V → Type 0) → List (K × V) → Type 0
IsWritableMap KeyWritable cmp ValueWritable m =
    IsWritableSequence (IsWritableSet KeyWritable cmp) (IsWritableList ValueWritable) (columns m)

-- as many values as keys, and each is allowed
abbrev pub AreAllowedValues : {K V : Type 0} → (V → Type 0) → List K → List V → Type 0
AreAllowedValues ValueAllowed keys = IsAllowedList (exactly (length keys)) ValueAllowed

-- The length is in the range, and each key and each value is allowed.
abbrev pub IsAllowedMap : {K V : Type 0} → Bounds ℕ → (K → Type 0) → (V → Type 0) → List (K × V) → Type 0
IsAllowedMap range KeyAllowed ValueAllowed m =
    IsAllowedSequence (IsAllowedList range KeyAllowed) (AreAllowedValues ValueAllowed) (columns m)

-- The first fault of an input that should begin with a map: that of the keys as a set; then, where there is none, that
-- of the values as a list of as many.
abbrev pub MapFault :
    {K V : Type 0} (key_enc : K → List ℕ) (KeyWritable : K → Type 0) (cmp : K → K → Ordering) (KeyAllowed : K → Type 0)
    (key_fault : List ℕ → Fault → Type 0)
    (value_enc : V → List ℕ) (ValueWritable ValueAllowed : V → Type 0) (value_fault : List ℕ → Fault → Type 0)
    → Bounds ℕ → List ℕ → Fault → Type 0
MapFault key_enc KeyWritable cmp KeyAllowed key_fault value_enc ValueWritable ValueAllowed value_fault range =
    SequenceFault (list_enc key_enc) (IsWritableSet KeyWritable cmp) (IsAllowedList range KeyAllowed)
    (SetFault key_enc KeyWritable cmp KeyAllowed key_fault range)
    (λ keys. ListFault value_enc ValueWritable ValueAllowed value_fault (exactly (length keys)))
