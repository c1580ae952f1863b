-- What is kept of the line under way.
use Rattle.std.specs.Prelude.{◌≡◌, ◌⊎◌, ℕ, List, ◌∷◌, ◌++◌, Bool}
use Rattle.judge_core.specs.Answered.{Continues}

-- a comment, which begins with `#`
abbrev pub IsComment : List ℕ → Type 0
IsComment line = (rest : List ℕ) × (line ≡ 35 ∷ rest)

-- all of a line is kept, or of a comment a comment: neither asks for an answer
abbrev pub IsKept : List ℕ → List ℕ → Type 0
IsKept line kept = (kept ≡ line) ⊎ (IsComment line × IsComment kept)

-- The whole lines of a prefix of the piece were answered, and none that came after it.
pub record IsStoppedWithin (numbered : Bool) (n : ℕ) (pending piece : List ℕ)
    (Said : List ℕ → Type 0) : Type 0 where
  pub gone : List ℕ
  pub after : List ℕ
  pub m : ℕ
  pub back : List ℕ
  pub said : List ℕ
  pub noted : List ℕ
  pub judged : Bool
  pub split : piece ≡ gone ++ after
  pub told : Said said
  pub answered : Continues numbered n pending gone m back said noted judged
