-- A byte, which is its own encoding.
use Rattle.std.specs.Prelude.{◌≡◌, ℕ, List, [], ◌∷◌}
use Rattle.commonware_base.specs.Fault.{Fault, EndOfBuffer}

-- a byte is its own encoding
abbrev pub byte : ℕ → List ℕ
byte b = b ∷ []

-- the fault (decoding error) of an input that should begin with a byte
abbrev pub byte_fault : List ℕ → Fault → Type 0
byte_fault s f = (s ≡ []) × (f ≡ EndOfBuffer)
