-- The words that ask for a command.
use Rattle.std.specs.Prelude.{◌≡◌, ◌≢◌, ℕ, ◌<◌, ◌≤◌, ◌^◌, List, [], ◌∷◌, codes, slice_index}
use Rattle.std.specs.Str.Parse.{IsNumeral, digits_value}
use Rattle.speed_core.specs.declared.command.Command.{Command}
use Rattle.speed_core.specs.declared.command.Command.TheVariants.{Help, Version, Time}

-- the word is digits, the first of which no plus precedes, and in decimal they write n, from 10 on and below 2^32
pub record IsSize (word : List ℕ) (n : ℕ) : Type 0 where
  pub unsigned : slice_index word 0 ≢ 43
  pub digits : IsNumeral 10 word
  pub value : digits_value 10 word ≡ n
  pub enough : 10 ≤ n
  pub fits : digits_value 10 word < 2 ^ 32

-- the word asks for the command
abbrev pub AsksFor : List ℕ → Command → Type 0
AsksFor word Help = word ≡ codes "--help"
AsksFor word Version = word ≡ codes "--version"
AsksFor word (Time n) = IsSize word n

-- these words are one word that asks for the command
abbrev pub IsAskedFor : List (List ℕ) → Command → Type 0
IsAskedFor words command = (word : List ℕ) × (words ≡ word ∷ []) × AsksFor word command

-- these words ask for no command
abbrev pub AskForNone : List (List ℕ) → Type 0
AskForNone words = (command : Command) → ¬ IsAskedFor words command
