-- What a reader gave.
use Rattle.std.specs.Prelude.{ℕ, List, Option}
use Rattle.std.specs.Io.KnownBytes.{Consumes, IsAtEnd}

-- a reader that had old left and has new left gave s, and is at its end
pub record Gave (old new : Option (List ℕ)) (s : List ℕ) : Type 0 where
  pub bytes : Consumes old new s
  pub at_end : IsAtEnd new
