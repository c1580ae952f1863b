-- The prefix of an input, which determines what is said of the whole.
use Rattle.std.specs.Prelude.{◌≡◌, ℕ, ◌≤◌, List, [], ◌++◌, length, ◌⊎◌, ◌↔◌}

-- The first `bound` bytes of an input determine whether P holds of it: P holds with more bytes after them exactly where
-- it holds with none.
abbrev pub IsDeterminedBy : ℕ → (List ℕ → Type 0) → Type 0
IsDeterminedBy bound P = (s more : List ℕ) → bound ≤ length s → P s ↔ P (s ++ more)

-- prefix is the whole input, or its first bytes, at least `bound` of them
pub record IsLongPrefix (bound : ℕ) (s prefix : List ℕ) : Type 0 where
  pub rest : List ℕ
  pub whole : s ≡ prefix ++ rest
  pub enough : (rest ≡ []) ⊎ (bound ≤ length prefix)
