-- What a run makes of the input that its reader gave.
use Rattle.std.specs.Prelude.{◌≡◌, ◌-◌, ◌^◌, ◌≤◌, ℕ, List, [], ◌++◌, Bool, true, Option, length}
use Rattle.std.specs.Io.KnownBytes.{Appends, Consumes}
use Rattle.std.specs.Str.Lines.{lines}
use Rattle.judge_questions.specs.Forms.{types_text}
use Rattle.judge_core.specs.Answered.{AreAnswered, Continues, asked_from}
use Rattle.judge_core.specs.Help.{help_text, version_text}
use Rattle.judge_core.specs.Memory.{IsTextMemoryFree}
use Rattle.judge_core.specs.declared.command.Command.{Command}
use Rattle.judge_core.specs.declared.command.Command.TheVariants.{Judge, Types, Help, Version}

-- The whole input was answered in what was written, and the lines that can't be read were noted; judged
-- tells whether all answers are verdicts.
abbrev pub IsAllAnswered : Bool → (List ℕ → Type 0) → (List ℕ → Type 0) → (List ℕ → Type 0) → Bool → Type 0
IsAllAnswered numbered Given Written Noted judged =
    (text said noted : List ℕ) × Given text × Written said × Noted noted
    × AreAnswered numbered (asked_from 1 (lines text)) said noted judged

-- Where a run stops early and its writer has not failed: what it wrote are the answers to the whole lines of a prefix
-- of the input, and no answer was written to what came after that prefix.
pub record IsPrefixAnswered (numbered : Bool) (in_old in_new out_old out_new : Option (List ℕ)) : Type 0 where
  pub text : List ℕ
  pub after : List ℕ
  pub number : ℕ
  pub back : List ℕ
  pub said : List ℕ
  pub noted : List ℕ
  pub judged : Bool
  pub given : Consumes in_old in_new (text ++ after)
  pub written : Appends out_old out_new said
  pub answered : Continues numbered 1 [] text number back said noted judged

-- the reader gave an input of which some line can't be answered without an allocation
abbrev pub NeedsMemory : Option (List ℕ) → Option (List ℕ) → Type 0
NeedsMemory in_old in_new = (text : List ℕ) × Consumes in_old in_new text × (¬ IsTextMemoryFree text)

-- the reader gave at least 2^64 - 1 bytes
abbrev pub IsTooLong : Option (List ℕ) → Option (List ℕ) → Type 0
IsTooLong in_old in_new = (text : List ℕ) × Consumes in_old in_new text × (2 ^ 64 - 1 ≤ length text)

-- what the command asks for is done, where Given holds of the input that the reader gave, Written of what was written,
-- and Noted of what was noted
abbrev pub IsDone : Command → (List ℕ → Type 0) → (List ℕ → Type 0) → (List ℕ → Type 0) → Bool → Type 0
IsDone (Judge numbered) Given Written Noted judged = IsAllAnswered numbered Given Written Noted judged
IsDone Types Given Written Noted judged = Written types_text × (judged ≡ true)
IsDone Help Given Written Noted judged = Written help_text × (judged ≡ true)
IsDone Version Given Written Noted judged = Written version_text × (judged ≡ true)

-- a run of the command stopped early, and its writer has not failed
abbrev pub IsStopped : Command → Option (List ℕ) → Option (List ℕ) → Option (List ℕ) → Option (List ℕ) → Type 0
IsStopped (Judge numbered) in_old in_new out_old out_new =
    IsPrefixAnswered numbered in_old in_new out_old out_new
IsStopped Types in_old in_new out_old out_new = out_new ≡ out_old
IsStopped Help in_old in_new out_old out_new = out_new ≡ out_old
IsStopped Version in_old in_new out_old out_new = out_new ≡ out_old
