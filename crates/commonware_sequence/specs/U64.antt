-- A number of 64 bits, which is encoded as its eight bytes, the highest first.
use Rattle.std.specs.Prelude.{ℕ, ◌<◌, ◌^◌, List}
use Rattle.std.specs.Int.{w64, to_be_bytes}
use Rattle.commonware_base.specs.Fault.{Fault}
use Rattle.commonware_sequence.specs.FixedBytes.{size_fault}

-- eight bytes, the highest first
abbrev pub u64_bytes : ℕ → List ℕ
u64_bytes n = to_be_bytes w64 n

-- a number of 64 bits
abbrev pub IsU64 : ℕ → Type 0
IsU64 n = n < 2 ^ 64

-- fewer than eight bytes are left
abbrev pub u64_fault : List ℕ → Fault → Type 0
u64_fault = size_fault 8
