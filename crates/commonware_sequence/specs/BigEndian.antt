-- Bytes that are read as big-endian numbers, and lists that begin with the same bytes.
use Rattle.std.specs.Prelude.{◌≡◌, ℕ, List, take, drop}
use Rattle.std.specs.Slice.Scan.{big_endian}

-- the number that the n bytes from place i on encode
abbrev pub number_at : ℕ → ℕ → List ℕ → ℕ
number_at n i bytes = big_endian 0 (take n (drop i bytes))

-- the lists begin with the same i bytes, or are the same where they have fewer
abbrev pub HaveSamePrefix : ℕ → List ℕ → List ℕ → Type 0
HaveSamePrefix i xs ys = take i xs ≡ take i ys
