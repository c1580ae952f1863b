-- Bytes as hexadecimal digits.
use Rattle.std.specs.Prelude.{◌≡◌, ℕ, ◌+◌, ◌*◌, ◌<◌, List, [], ◌∷◌, codes}
use Rattle.std.specs.Char.{digit_value}

-- two digits, of which letters may be lower or upper case, write the byte
pub record IsHexByte (high low byte : ℕ) : Type 0 where
  pub is_digit : digit_value high < 16
  pub is_second : digit_value low < 16
  pub value : byte ≡ 16 * digit_value high + digit_value low

-- the word is two digits for each byte, those of the first byte first
abbrev pub IsHex : List ℕ → List ℕ → Type 0
IsHex [] [] = Unit {0}
IsHex [] (byte ∷ bytes) = ⊥
IsHex (digit ∷ []) bytes = ⊥
IsHex (high ∷ low ∷ word) [] = ⊥
IsHex (high ∷ low ∷ word) (byte ∷ bytes) = IsHexByte high low byte × IsHex word bytes

-- the word writes the bytes: in hexadecimal digits, or as `-` where there are none
abbrev pub IsText : List ℕ → List ℕ → Type 0
IsText word [] = word ≡ codes "-"
IsText word (byte ∷ bytes) = IsHex word (byte ∷ bytes)
