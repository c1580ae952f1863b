-- What a caller in C has written of pairs of keys and values, each of one size.
use Rattle.std.specs.Prelude.{◌≡◌, ℕ, ◌+◌, ◌*◌, ◌^◌, ◌<◌, ◌≤◌, List, Some, drop, length, map, nat_eq, slice_get, take}
use Rattle.std.specs.Borrow.{Bor}
use Rattle.std.specs.Cmp.Lexicographic.{pointwise}
use Rattle.std.specs.List.Sorted.{IsPermutation}
use Rattle.commonware_map.specs.Maps.{map_enc}
use Rattle.commonware_map.specs.Pairs.{on_keys}
use Rattle.commonware_ordered.specs.Dedup.{IsDedup}
use Rattle.commonware_ordered.specs.Strict.{IsStrict}
use Rattle.commonware_sequence.specs.FixedBytes.{bytes_cmp, own_bytes}

-- a row is a key of `key_size` bytes, and then its value
abbrev pub pair_of : ℕ → List ℕ → List ℕ × List ℕ
pair_of key_size row = (take key_size row, drop key_size row)

-- what the references of pairs refer to
abbrev pub referred : List (Bor (List ℕ) × Bor (List ℕ)) → List (List ℕ × List ℕ)
referred pairs = map (λ p. (p.0.now, p.1.now)) pairs

-- the rows are strictly increasing by their keys, so that no key repeats
abbrev pub AreInKeyOrder : ℕ → List (List ℕ) → Type 0
AreInKeyOrder key_size = IsStrict (λ row next. bytes_cmp (take key_size row) (take key_size next))

-- the pairs are those of the rows in the order of their keys, of those with equal keys the first
abbrev pub IsFirstOfEach : ℕ → List (List ℕ) → List (List ℕ × List ℕ) → Type 0
IsFirstOfEach key_size rows =
    IsDedup (on_keys (pointwise nat_eq)) (on_keys bytes_cmp) (map (pair_of key_size) rows)

-- The map has the first pair of each key, in the order of the keys: `count` of them, no more than the rows and fewer
-- than 2 ^ 32, so that it can be written, and `bytes` bytes.
pub record IsMapOf (key_size value_size : ℕ) (rows : List (List ℕ)) (pairs : List (List ℕ × List ℕ)) (count bytes : ℕ) :
    Type 0 where
  pub firsts : IsFirstOfEach key_size rows pairs
  pub count_is : count ≡ length pairs
  pub count_most : count ≤ length rows
  pub count_short : count < 2 ^ 32
  pub bytes_is : bytes ≡ length (map_enc own_bytes own_bytes pairs)
  pub bytes_most : bytes ≤ 10 + (key_size + value_size) * count

-- the row at the index has the key of an earlier row
abbrev pub RepeatsKey : ℕ → List (List ℕ) → ℕ → Type 0
RepeatsKey key_size rows index =
    (row : List ℕ) × (slice_get rows index ≡ Some row)
    × (earlier : ℕ) × (other : List ℕ) × (earlier < index) × (slice_get rows earlier ≡ Some other)
    × (take key_size other ≡ take key_size row)

-- the index is that of the first row that has the key of an earlier one
abbrev pub IsFirstRepeatedKey : ℕ → List (List ℕ) → ℕ → Type 0
IsFirstRepeatedKey key_size rows index =
    RepeatsKey key_size rows index × ((i : ℕ) → i < index → ¬ RepeatsKey key_size rows i)

-- no row has the key of an earlier one, and the pairs are those of all rows, in the order of their keys
pub record AreAllPairs (key_size : ℕ) (rows : List (List ℕ)) (pairs : List (List ℕ × List ℕ)) : Type 0 where
  pub distinct : (i : ℕ) → ¬ RepeatsKey key_size rows i
  pub all : IsPermutation (map (pair_of key_size) rows) pairs
  pub strict : IsStrict (on_keys bytes_cmp) pairs

-- The map has the pairs of all rows, no two of which have one key, in the order of the keys: as many as there are rows,
-- fewer than 2 ^ 32, and `bytes` bytes.
pub record IsMapOfAll (key_size value_size : ℕ) (rows : List (List ℕ)) (pairs : List (List ℕ × List ℕ))
    (count bytes : ℕ) : Type 0 where
  pub are_all : AreAllPairs key_size rows pairs
  pub count_is : count ≡ length rows
  pub count_short : count < 2 ^ 32
  pub bytes_is : bytes ≡ length (map_enc own_bytes own_bytes pairs)
  pub bytes_most : bytes ≤ 10 + (key_size + value_size) * count
