-- The encoding of a map of keys and values, each of one size, at the start of an input, and where its parts are.
use Rattle.std.specs.Prelude.{◌≡◌, ℕ, ◌+◌, ◌*◌, List, length}
use Rattle.std.specs.Map.{keys_of, values_of}
use Rattle.commonware_base.specs.Range.{Bounds}
use Rattle.commonware_base.specs.Varint.{varint}
use Rattle.commonware_views.specs.Lists.{StandBy}
use Rattle.commonware_views.specs.Maps.{IsSizedMapOf}

-- s begins with the map of these pairs: its first key is at `keys`, after their number, its first value at `values`,
-- after the keys and their number again, and `left` bytes follow
pub record IsMapAt (key_size value_size : ℕ) (range : Bounds ℕ) (s : List ℕ) (pairs : List (List ℕ × List ℕ))
    (keys values left : ℕ) : Type 0 where
  pub rest : List ℕ
  pub is : IsSizedMapOf key_size value_size range s pairs rest
  pub left_is : left ≡ length rest
  pub keys_start : keys ≡ length (varint (length pairs))
  pub values_start : values ≡ keys + key_size * length pairs + length (varint (length pairs))
  pub keys_stand : StandBy key_size s keys (keys_of pairs)
  pub values_stand : StandBy value_size s values (values_of pairs)
