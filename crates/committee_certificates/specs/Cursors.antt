-- Places among the encodings of indices.
use Rattle.std.specs.Prelude.{◌≡◌, ℕ, suc, List, [], ◌∷◌, ◌++◌, length}
use Rattle.std.specs.List.{AllByRecursion, flat_map}
use Rattle.commonware_base.specs.declared.codec.source.Source.{Source}
use Rattle.commonware_base.specs.Source.{rest_of}
use Rattle.commonware_base.specs.Varint.{varint}
use Rattle.commonware_base.specs.Words.{IsWord}
use Rattle.committee_certificates.specs.declared.walk.Cursor.{Cursor}

-- the encodings of these indices come next
pub record GoesOnWith (source : Source) (indices : List ℕ) : Type 0 where
  pub words : AllByRecursion IsWord indices
  pub rest : List ℕ
  pub begins : rest_of source ≡ flat_map varint indices ++ rest

-- the indices that are left are these
abbrev pub IsAt : Cursor → List ℕ → Type 0
IsAt cursor [] = cursor.left ≡ 0
IsAt cursor (index ∷ indices) =
    (cursor.left ≡ suc (length indices)) × (cursor.index ≡ index) × GoesOnWith cursor.next indices
