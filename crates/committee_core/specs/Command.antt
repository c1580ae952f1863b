-- The words that give a command.
use Rattle.std.specs.Prelude.{◌≡◌, ℕ, ◌≤◌, List, [], ◌∷◌, length, All, codes}
use Rattle.std.specs.Char.{IsAsciiDigit}
use Rattle.std.specs.Int.NonZero.{non_zero_u32_get}
use Rattle.std.specs.Str.Parse.{digits_value}
use Rattle.std.specs.declared.num.NonZeroU32.{NonZeroU32}
use Rattle.committee_core.specs.declared.command.Command.{Command}
use Rattle.committee_core.specs.declared.command.Command.TheVariants.{Read, Bounds}

-- the word is 1 to 10 ASCII digits, and in decimal they write n, a number from 1 to 4294967295: so zeros may lead
pub record IsCount (word : List ℕ) (n : NonZeroU32) : Type 0 where
  pub some : 1 ≤ length word
  pub few : length word ≤ 10
  pub digits : All IsAsciiDigit word
  pub value : digits_value 10 word ≡ non_zero_u32_get n
  pub at_least : 1 ≤ digits_value 10 word
  pub at_most : digits_value 10 word ≤ 4294967295

-- these words, and no others, give the command
abbrev pub IsAskedFor : List (List ℕ) → Command → Type 0
IsAskedFor words Read = words ≡ codes "read" ∷ []
IsAskedFor words (Bounds n) = (word : List ℕ) × (words ≡ codes "bounds" ∷ word ∷ []) × IsCount word n

-- these words give no command
abbrev pub AskForNone : List (List ℕ) → Type 0
AskForNone words = (command : Command) → ¬ IsAskedFor words command
