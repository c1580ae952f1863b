-- The encoding of a set of keys of one size.
use Rattle.std.specs.Prelude.{ℕ, ◌+◌, ◌<◌, List, length}
use Rattle.commonware_base.specs.Fault.{Fault}
use Rattle.commonware_base.specs.Lists.{list_enc, IsAllowedList}
use Rattle.commonware_base.specs.Range.{Bounds}
use Rattle.commonware_base.specs.Text.{Accepts}
use Rattle.commonware_ordered.specs.Sets.{IsWritableSet, SetFault}
use Rattle.commonware_ordered.specs.Strict.{IsLessThanNext}
use Rattle.commonware_sequence.specs.FixedBytes.{IsOfSize, own_bytes, bytes_cmp, size_fault}
use Rattle.commonware_views.specs.Lists.{Any, IsListOf}

-- s is the encoding of a set of keys of `size` bytes, as many as the range allows, and then rest
abbrev pub IsKeySetOf : ℕ → Bounds ℕ → List ℕ → List (List ℕ) → List ℕ → Type 0
IsKeySetOf size range s keys rest =
    Accepts (list_enc own_bytes) (IsWritableSet (IsOfSize size) bytes_cmp) (IsAllowedList range Any) s keys rest

-- the first fault of s, where s begins with no such set
abbrev pub key_set_fault : ℕ → Bounds ℕ → List ℕ → Fault → Type 0
key_set_fault size = SetFault own_bytes (IsOfSize size) bytes_cmp Any (size_fault size)

-- s begins with a list of keys of `size` bytes, as many as the range allows, and the key at place k isn't less than the
-- next
pub record IsOutOfOrderAt (size : ℕ) (range : Bounds ℕ) (s : List ℕ) (k : ℕ) : Type 0 where
  pub keys : List (List ℕ)
  pub rest : List ℕ
  pub list : IsListOf size range s keys rest
  pub inside : k + 1 < length keys
  pub unsorted : ¬ IsLessThanNext bytes_cmp keys k
