-- A line that asks for a reading, and what is wrong with a line that doesn't.
use Rattle.std.specs.Prelude.{◌≡◌, ◌≢◌, ℕ, List, [], ◌∷◌, ◌++◌, Option, Some, IfSome, length}
use Rattle.judge_questions.specs.Forms.{lengths_of, name_of}
use Rattle.judge_questions.specs.Hex.{IsText}
use Rattle.judge_questions.specs.Limits.{HasNoZero, full}
use Rattle.judge_questions.specs.Ranges.{IsRange}
use Rattle.judge_questions.specs.Words.{words_of}
use Rattle.judge_questions.specs.declared.form.Form.{Form}
use Rattle.judge_questions.specs.declared.form.Form.TheVariants.{SetNonEmptyU8, NonEmptyU8, NonEmptyNonEmptyU8}
use Rattle.judge_questions.specs.declared.limits.Limits.{Limits}
use Rattle.judge_questions.specs.declared.question.Unreadable.{Unreadable}
use Rattle.judge_questions.specs.declared.question.Unreadable.TheVariants.{Name, Ranges, Bytes, Model, Number}

-- the words write the ranges, up to three of them, and those that no word writes are full
abbrev pub AreRanges : List (List ℕ) → Limits → Type 0
AreRanges [] l = (l.first ≡ full) × (l.second ≡ full) × (l.third ≡ full)
AreRanges (a ∷ []) l = IsRange a l.first × (l.second ≡ full) × (l.third ≡ full)
AreRanges (a ∷ b ∷ []) l = IsRange a l.first × IsRange b l.second × (l.third ≡ full)
AreRanges (a ∷ b ∷ c ∷ []) l = IsRange a l.first × IsRange b l.second × IsRange c l.third
AreRanges (a ∷ b ∷ c ∷ d ∷ words) l = ⊥

-- the ranges can be those of the type: no bound of a non-empty list is 0
abbrev pub IsFit : Form → Limits → Type 0
IsFit SetNonEmptyU8 l = HasNoZero l.second
IsFit NonEmptyU8 l = HasNoZero l.first
IsFit NonEmptyNonEmptyU8 l = HasNoZero l.first × HasNoZero l.second
IsFit _ l = Unit {0}

-- the words write the ranges of a type: one for each of its lengths, and none with a bound 0 for a list that is never
-- empty
pub record AreLimits (form : Form) (words : List (List ℕ)) (limits : Limits) : Type 0 where
  pub count : length words ≡ lengths_of form
  pub ranges : AreRanges words limits
  pub fit : IsFit form limits

-- The first `count` words write ranges, which are the result, and the others are left; where they write any, there is a
-- result.
abbrev pub ReadsRanges : ℕ → List (List ℕ) → Option Limits → List (List ℕ) → Type 0
ReadsRanges count old result new =
    IfSome result
    (λ limits. (ranges : List (List ℕ)) × (old ≡ ranges ++ new) × (length ranges ≡ count) × AreRanges ranges limits)
    × ((ranges more : List (List ℕ)) (limits : Limits) → length ranges ≡ count → AreRanges ranges limits
    → old ≡ ranges ++ more → result ≡ Some limits)

-- The line asks for a reading: its words are the name of a type, the ranges of that, and the bytes of the input.
pub record IsQuestion (line : List ℕ) (form : Form) (limits : Limits) (text : List ℕ) : Type 0 where
  pub ranges : List (List ℕ)
  pub word : List ℕ
  pub words : words_of line ≡ name_of form ∷ (ranges ++ (word ∷ []))
  pub are_limits : AreLimits form ranges limits
  pub is_text : IsText word text

-- What of a line can't be read: its first word is no type's name; or the words after the name don't begin with the
-- ranges of
-- that type; or what follows these is no single word that writes bytes.
abbrev pub IsUnreadable : List ℕ → Unreadable → Type 0
IsUnreadable line Name = (form : Form) (rest : List (List ℕ)) → words_of line ≢ name_of form ∷ rest
IsUnreadable line Ranges =
    (form : Form) × (rest : List (List ℕ)) × (words_of line ≡ name_of form ∷ rest)
    × ((ranges more : List (List ℕ)) (limits : Limits) → AreLimits form ranges limits → rest ≢ ranges ++ more)
IsUnreadable line Bytes =
    (form : Form) × (ranges : List (List ℕ)) × (limits : Limits) × (rest : List (List ℕ))
    × (words_of line ≡ name_of form ∷ (ranges ++ rest)) × AreLimits form ranges limits
    × ((word text : List ℕ) → rest ≡ word ∷ [] → ¬ IsText word text)
IsUnreadable line Model = ⊥
IsUnreadable line Number = ⊥
