-- The words that ask for a command.
use Rattle.std.specs.Prelude.{◌≡◌, ℕ, Bool, true, false, List, [], ◌∷◌, codes}
use Rattle.judge_core.specs.declared.command.Command.{Command}
use Rattle.judge_core.specs.declared.command.Command.TheVariants.{Judge, Types, Help, Version}

-- the word asks for the command
abbrev pub AsksFor : List ℕ → Command → Type 0
AsksFor word (Judge true) = word ≡ codes "--number"
AsksFor word (Judge false) = ⊥
AsksFor word Types = word ≡ codes "types"
AsksFor word Help = word ≡ codes "--help"
AsksFor word Version = word ≡ codes "--version"

-- these words, and no others, ask for the command
abbrev pub IsAskedFor : List (List ℕ) → Command → Type 0
IsAskedFor words (Judge true) = words ≡ codes "--number" ∷ []
IsAskedFor words (Judge false) = words ≡ []
IsAskedFor words Types = words ≡ codes "types" ∷ []
IsAskedFor words Help = words ≡ codes "--help" ∷ []
IsAskedFor words Version = words ≡ codes "--version" ∷ []

-- these words ask for no command
abbrev pub AskForNone : List (List ℕ) → Type 0
AskForNone words = (command : Command) → ¬ IsAskedFor words command

-- the command is to answer the lines of standard input
abbrev pub IsJudging : Command → Type 0
IsJudging command = (numbered : Bool) × (command ≡ Judge numbered)

-- these words ask to answer the lines of standard input
abbrev pub AskToJudge : List (List ℕ) → Type 0
AskToJudge words = (numbered : Bool) × IsAskedFor words (Judge numbered)
