-- A caller's room after bytes were written to it.
use Rattle.std.specs.Prelude.{ℕ, ◌+◌, List, ◌++◌, drop, length, take}

-- the room with these bytes from a place on, and as it was before and after them
abbrev pub spliced : ℕ → List ℕ → List ℕ → List ℕ
spliced at bytes room = take at room ++ (bytes ++ drop (at + length bytes) room)
