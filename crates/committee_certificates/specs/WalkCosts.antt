-- How many comparisons a walk over two lists, side by side, makes at least: there were `old`, and then there are `new`.
use Rattle.std.specs.Prelude.{◌≡◌, ◌⊎◌, ◌+◌, ◌≤◌, ℕ}

-- a walk over n and m items to the end of one of the lists, by a counter that takes one for each comparison: each item
-- of that list was compared, and counted
abbrev pub IsWalkedToAnEnd : ℕ → ℕ → ℕ → ℕ → ℕ → Type 0
IsWalkedToAnEnd step n m old new = step ≡ 1 → (old + n ≤ new) ⊎ (old + m ≤ new)
