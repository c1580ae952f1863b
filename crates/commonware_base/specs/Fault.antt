-- Decoding errors: what can be wrong with an input.
use Rattle.std.specs.Prelude.{ℕ, List}

-- The faults (decoding errors) of an input, as `Error` names them, with its words as lists of bytes. An allocation
-- failure is no fault of an input.
pub data Fault : Type 0 where
  EndOfBuffer : Fault
  InvalidVarint : Fault
  InvalidLength : ℕ → Fault
  Invalid : List ℕ → List ℕ → Fault
