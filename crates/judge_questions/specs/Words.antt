-- The words of a line.
use Rattle.std.specs.Prelude.{ℕ, ◌≤◌, List, [], Option, Some, None, ◌==◌, length}
use Rattle.std.specs.List.{AllByRecursion, slice_split}

-- the parts of a line between spaces
abbrev pub words_of : List ℕ → List (List ℕ)
words_of line = slice_split (λ b. b == 32) line

-- the words of what is left of a line, if something is
abbrev pub words_left : Option (List ℕ) → List (List ℕ)
words_left None = []
words_left (Some rest) = words_of rest

-- no word has more than 128 bytes, so none writes more than 64: those are kept without an allocation
abbrev pub AreShort : List (List ℕ) → Type 0
AreShort = AllByRecursion (λ word. length word ≤ 128)
