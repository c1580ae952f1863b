-- How many comparisons a search makes that halves what is left, and leaves out what it compared with.
use Rattle.std.proofs.Common.{◌≡◌, ℕ, zero, suc, ◌+◌, ◌*◌, ◌^◌, ◌<◌, ◌≤◌, arith}
use native.Mathlib.Numerals.{unary_clauses}

-- Before a step there were `old` comparisons, and now there are `new`: of those of k, j are left.
abbrev pub IsHalvingLeft : ℕ → ℕ → ℕ → ℕ → Type 0
IsHalvingLeft old new size k = (j : ℕ) × (new + j ≤ old + k) × (size < 2 ^ j)

-- at first
pub halving_at_first : (old size k : ℕ) → size < 2 ^ k → IsHalvingLeft old old size k
halving_at_first old size k h = (k, omega arith, h)

-- a step of one comparison
pub left_by_halving : (old new next size half k : ℕ) → next ≤ new + 1 → 0 < size → 2 * half ≤ size → IsHalvingLeft old new size k → IsHalvingLeft old next half k
left_by_halving old new next size half k one some less (zero, e, room) = let a : size < 1 = room in absurd (omega arith)
left_by_halving old new next size half k one some less (suc i, e, room) =
    let a = simp unary_clauses at room in
    let f = simp unary_clauses at e in
    (i, omega arith, omega arith)

-- where the last comparison finds the item
pub found_by_halving : (old new next size k : ℕ) → next ≤ new + 1 → 0 < size → IsHalvingLeft old new size k → next ≤ old + k
found_by_halving old new next size k one some (zero, e, room) = let a : size < 1 = room in absurd (omega arith)
found_by_halving old new next size k one some (suc i, e, room) = let f = simp unary_clauses at e in omega arith

-- at the end
pub cost_of_halving : (old new size k : ℕ) → IsHalvingLeft old new size k → new ≤ old + k
cost_of_halving old new size k (j, e, room) = omega arith

-- Of n keys as many are left, and there is a comparison counted unless all of them are.
abbrev pub IsSomeCounted : ℕ → ℕ → ℕ → ℕ → Type 0
IsSomeCounted n left old new = (old ≤ new) × (left < n → old + 1 ≤ new)

-- a comparison more
pub one_more_counted : (n left next old new now step : ℕ) → now ≡ new + step → step ≡ 1 → IsSomeCounted n left old new
    → IsSomeCounted n next old now
one_more_counted n left next old new now step more one (some, _) = (omega (arith, more, one, some), λ _. omega (arith, more, one, some))
