-- A byte slice and a position in it.
use Rattle.std.specs.Prelude.{◌≡◌, ℕ, ◌+◌, List, ◌++◌, length, drop}
use Rattle.commonware_base.specs.declared.codec.source.Source.{Source}

-- the whole slice
abbrev pub bytes_of : Source → List ℕ
bytes_of source = source.bytes.now

-- how many of its bytes were taken
abbrev pub position_of : Source → ℕ
position_of source = source.position

-- the bytes that are left
abbrev pub rest_of : Source → List ℕ
rest_of source = drop source.position source.bytes.now

-- From old to new exactly these bytes were taken: what was left is these bytes, and then what is left now.
pub record Consumes (old new : Source) (text : List ℕ) : Type 0 where
  pub bytes : bytes_of new ≡ bytes_of old
  pub position : position_of new ≡ position_of old + length text
  pub rest : rest_of old ≡ text ++ rest_of new
