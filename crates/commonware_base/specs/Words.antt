-- A word, which is encoded as four bytes, the highest first.
use Rattle.std.specs.Prelude.{◌≡◌, ℕ, ◌<◌, ◌^◌, List, length}
use Rattle.std.specs.Int.{w32, to_be_bytes}
use Rattle.commonware_base.specs.Fault.{Fault, EndOfBuffer}

-- four bytes, the highest first
abbrev pub word_bytes : ℕ → List ℕ
word_bytes n = to_be_bytes w32 n

-- a number of 32 bits
abbrev pub IsWord : ℕ → Type 0
IsWord n = n < 2 ^ 32

-- fewer than four bytes are left
abbrev pub word_fault : List ℕ → Fault → Type 0
word_fault s f = (length s < 4) × (f ≡ EndOfBuffer)
