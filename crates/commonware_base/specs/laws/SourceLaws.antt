-- What is known of a source.
use Rattle.std.specs.Prelude.{ℕ, zero, suc, List, [], ◌∷◌, drop}
use Rattle.commonware_base.specs.declared.codec.source.Source.{Source}
use Rattle.commonware_base.specs.Source.{rest_of}
use Rattle.commonware_base.specs.Text.{AreBytes}

-- what is past n bytes of a list of bytes is a list of bytes
bytes_past : (n : ℕ) (text : List ℕ) → AreBytes text → AreBytes (drop n text)
bytes_past zero text h = h
bytes_past (suc n) [] h = tt
bytes_past (suc n) (b ∷ text) h = bytes_past n text h.1

-- what is left is a list of bytes
pub rest_bytes : (source : Source) → AreBytes (rest_of source)
rest_bytes source = bytes_past source.position source.bytes.now source.are_bytes
