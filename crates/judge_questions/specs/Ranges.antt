-- A range as Rust writes it: `..`, `a..`, `..b`, `..=b`, `a..b` and `a..=b`, in decimal digits.
use Rattle.std.specs.Prelude.{◌≡◌, ℕ, ◌<◌, ◌^◌, List, [], ◌++◌, Option, Some, None, codes}
use Rattle.std.specs.Str.Parse.{IsNumeral, digits_value}
use Rattle.std.specs.declared.ops.Bound.{Bound}
use Rattle.std.specs.declared.ops.Bound.TheVariants.{Included, Excluded, Unbounded}
use Rattle.commonware_base.specs.Range.{Bounds}

-- the word is one decimal digit or more, and they write n, which fits a `usize`: so zeros may lead
pub record IsNumber (word : List ℕ) (n : ℕ) : Type 0 where
  pub digits : IsNumeral 10 word
  pub value : digits_value 10 word ≡ n
  pub fits : n < 2 ^ 64

-- the word writes a lower bound, or nothing where there is none
abbrev pub IsLower : List ℕ → Option ℕ → Type 0
IsLower word (Some n) = IsNumber word n
IsLower word None = word ≡ []

-- the word writes an upper bound, after `=` where it is included, or nothing where there is none
abbrev pub IsUpper : List ℕ → Bound ℕ → Type 0
IsUpper word (Included n) = (digits : List ℕ) × (word ≡ codes "=" ++ digits) × IsNumber digits n
IsUpper word (Excluded n) = IsNumber word n
IsUpper word Unbounded = word ≡ []

-- the word writes the range: its lower bound, two dots, and its upper bound
pub record IsRange (word : List ℕ) (range : Bounds ℕ) : Type 0 where
  pub lower : List ℕ
  pub upper : List ℕ
  pub whole : word ≡ lower ++ (codes ".." ++ upper)
  pub above : IsLower lower range.lower
  pub below : IsUpper upper range.upper
