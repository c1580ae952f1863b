-- Bytes of one fixed size, which are their own encoding.
use Rattle.std.specs.Prelude.{◌≡◌, ℕ, ◌<◌, List, length}
use Rattle.std.specs.Cmp.Lexicographic.{slice_cmp}
use Rattle.std.specs.Ordering.{nat_cmp}
use Rattle.std.specs.declared.cmp.Ordering.{Ordering}
use Rattle.commonware_base.specs.Fault.{Fault, EndOfBuffer}
use Rattle.commonware_base.specs.Text.{AreBytes}

-- a list of `size` bytes
pub record IsOfSize (size : ℕ) (xs : List ℕ) : Type 0 where
  pub count : length xs ≡ size
  pub bytes : AreBytes xs

-- bytes of a fixed size are their own encoding
abbrev pub own_bytes : List ℕ → List ℕ
own_bytes bytes = bytes

-- they are ordered as lists of bytes: by the first byte in which they differ
abbrev pub bytes_cmp : List ℕ → List ℕ → Ordering
bytes_cmp = slice_cmp nat_cmp

-- fewer than `size` bytes are left
abbrev pub size_fault : ℕ → List ℕ → Fault → Type 0
size_fault size s f = (length s < size) × (f ≡ EndOfBuffer)
