-- How many comparisons a call makes: there were `old`, and then there are `new`.
use Rattle.std.specs.Prelude.{◌≡◌, ◌+◌, ◌<◌, ◌≤◌, ◌^◌, ℕ}

-- a look-up among n items by halving, where k binary digits are enough for n: k
abbrev pub IsHalvingCost : ℕ → ℕ → ℕ → Type 0
IsHalvingCost n old new = (k : ℕ) → n < 2 ^ k → new ≤ old + k

-- a look-up among n items, by a counter that takes one for each comparison: where there is an item, one was compared
abbrev pub IsLookUpCounted : ℕ → ℕ → ℕ → ℕ → Type 0
IsLookUpCounted step n old new = step ≡ 1 → 1 ≤ n → old + 1 ≤ new
