-- The varint encoding of a number below 2 ^ 32: groups of seven bits, the lowest first.
use Rattle.std.specs.Prelude.{◌≡◌, ℕ, zero, suc, ◌+◌, ◌*◌, ◌/◌, ◌%◌, ◌^◌, ◌<◌, ◌≤◌, List, [], ◌∷◌, ◌++◌, length, nat_lt}
use Rattle.std.specs.Prelude.{if◌then◌else◌, ◌⊎◌}
use Rattle.std.specs.List.{AllByRecursion}
use Rattle.commonware_base.specs.Fault.{Fault, EndOfBuffer, InvalidVarint}

-- a byte that more bytes come after
abbrev pub IsContinued : ℕ → Type 0
IsContinued b = (128 ≤ b) × (b < 256)

-- bytes that each have more after them
abbrev pub AreContinued : List ℕ → Type 0
AreContinued = AllByRecursion IsContinued

-- The sum of each byte modulo 128 times 128 ^ place, where the first byte has place 0.
abbrev pub groups_sum : List ℕ → ℕ
groups_sum [] = 0
groups_sum (b ∷ bytes) = b % 128 + 128 * groups_sum bytes

-- The bytes encode the number: each byte but the last is at least 128, the last is below 128 and is 0
-- only where it is alone, and there are at most five.
pub record IsVarint (number : ℕ) (bytes : List ℕ) : Type 0 where
  pub prefix : List ℕ
  pub last : ℕ
  pub bytes_are : bytes ≡ prefix ++ last ∷ []
  pub high : AreContinued prefix
  pub low : last < 128
  pub shortest : last ≡ 0 → prefix ≡ []
  pub short : length prefix ≤ 4
  pub sum : groups_sum bytes ≡ number
  pub fits : number < 2 ^ 32

-- A number in at most more + 1 groups.
abbrev pub groups : ℕ → ℕ → List ℕ
groups zero n = n ∷ []
groups (suc more) n = if nat_lt n 128 then n ∷ [] else (n % 128 + 128) ∷ groups more (n / 128)

-- The varint encoding of a number below 2 ^ 32.
unfoldable pub varint : ℕ → List ℕ
varint n = groups 4 n

-- The length of the varint encoding of a number below 2 ^ 32, which a caller at a number can compute.
abbrev pub varint_size : ℕ → ℕ
varint_size n = length (groups 4 n)

-- at most four bytes, and more should come
pub record IsTruncated (text : List ℕ) : Type 0 where
  pub high : AreContinued text
  pub short : length text ≤ 4

-- The input begins with 2 to 5 bytes of which all but the last are at least 128 and the last is 0, or with
-- four bytes of at least 128 and then one above 15.
pub record IsOverlongOrTooGreat (text : List ℕ) : Type 0 where
  pub prefix : List ℕ
  pub last : ℕ
  pub rest : List ℕ
  pub begins : text ≡ prefix ++ last ∷ rest
  pub high : AreContinued prefix
  pub wrong : ((last ≡ 0) × (0 < length prefix) × (length prefix ≤ 4)) ⊎ ((length prefix ≡ 4) × (15 < last))

-- the fault of an input that should begin with a number
abbrev pub varint_fault : List ℕ → Fault → Type 0
varint_fault text EndOfBuffer = IsTruncated text
varint_fault text InvalidVarint = IsOverlongOrTooGreat text
varint_fault text _ = ⊥
