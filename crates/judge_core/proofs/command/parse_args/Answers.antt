use Rattle.std.proofs.Common.{◌≡◌, ℕ, List, [], ◌∷◌, None, Option, Some, true, false, rules}
use Rattle.std.specs.Prelude.{IfNone}
use Rattle.std.specs.String.{string_bytes}
use Rattle.program_io.proofs.OneWord.{one_word}
use Rattle.judge_core.specs.Command.{AsksFor, IsAskedFor}
use Rattle.judge_core.specs.declared.command.Command.{Command}
use Rattle.judge_core.specs.declared.command.Command.TheVariants.{Judge, Types, Help, Version}
use Rattle.judge_core.proofs.command.parse_args.Goals as goal

-- one word that asks for no command is words that do
asks_for_none : (words : List (List ℕ)) (word : List ℕ) → words ≡ word ∷ [] → ((command : Command) → ¬ AsksFor word command) → (command : Command) → ¬ IsAskedFor words command
asks_for_none words word is none (Judge true) e = none (Judge true) (cc)
asks_for_none words word is none (Judge false) e = absurd (cc)
asks_for_none words word is none Types e = none Types (cc)
asks_for_none words word is none Help e = none Help (cc)
asks_for_none words word is none Version e = none Version (cc)

-- the same of an answer
none_asked : (words : List (List ℕ)) (word : List ℕ) (asked : Option Command) → words ≡ word ∷ [] → IfNone asked ((command : Command) → ¬ AsksFor word command) → IfNone asked ((command : Command) → ¬ IsAskedFor words command)
none_asked words word None is none = asks_for_none words word is none
none_asked words word (Some command) is none = tt

pub returns-in-len1-clause-other : goal.returns-in-len1-clause-other
returns-in-len1-clause-other g c =
    let word = c.as_str.result.now in
    let same : string_bytes c.word-item.result ≡ word = search rules in
    none_asked _ word c.parse_word.result (one_word string_bytes c.args.words.now c.word-item.result word c.in-len1.len_at_least c.in-len1.len_below c.word-item.is same) c.parse_word.ensures.other
