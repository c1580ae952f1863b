-- How many comparisons the search makes.
use Rattle.std.proofs.Common.{◌≡◌, ◌⊎◌, inl, inr, ℕ, zero, suc, ◌+◌, ◌*◌, ◌^◌, ◌<◌, ◌≤◌, arith, ⊎_elim}
use native.Mathlib.Numerals.{unary_clauses}

-- Before a step that quarters there were `old` comparisons, and now there are `new`: where `size` places are left of fewer
-- than 2^k, three halves of j are left of those of k.
abbrev pub IsLeft : ℕ → ℕ → ℕ → ℕ → Type 0
IsLeft old new size k =
    (j : ℕ) × (2 * new + 3 * j ≤ 2 * old + 3 * k) × ((size < 2 ^ j) ⊎ ((2 ≤ j) × (size < 2 ^ j + 3)))

-- at first
pub left_at_first : (old size k : ℕ) → size < 2 ^ k → IsLeft old old size k
left_at_first old size k h = (k, omega arith, inl h)

-- a step of three comparisons
pub left_by_quarter : (old new next size left k : ℕ) → (next ≤ new + 3) × (4 * left ≤ size + 9) → 16 < size
    → IsLeft old new size k → IsLeft old next left k
left_by_quarter old new next size left k cost more (j, e, side) = go j e (⊎_elim (λ h. omega arith) (λ h. h.1) side)
  where
    many : (i : ℕ) → size < 2 ^ suc (suc i) + 3 → 2 ≤ i
    many zero room = let a : size < 4 + 3 = room in absurd (omega arith)
    many (suc zero) room = let a : size < 8 + 3 = room in absurd (omega arith)
    many (suc (suc i)) room = omega arith

    go : (j : ℕ) → 2 * new + 3 * j ≤ 2 * old + 3 * k → size < 2 ^ j + 3 → IsLeft old next left k
    go zero e room = let a : size < 1 + 3 = room in absurd (omega arith)
    go (suc zero) e room = let a : size < 2 + 3 = room in absurd (omega arith)
    go (suc (suc i)) e room =
        let one = cost.0 in
        let less = cost.1 in
        let a = simp unary_clauses at room in
        let f = simp unary_clauses at e in
        (i, omega arith, inr (many i room, omega arith))

-- at the end
pub cost_of_quarters : (old new size k last : ℕ) → size ≤ 16 → IsLeft old new size k → ((j : ℕ) → size ≤ 2 ^ j → last ≤ new + j)
    → 2 * last ≤ 2 * old + 3 * k
cost_of_quarters old new size k last few (j, e, side) halves = ⊎_elim low (λ h. high j e h.0 h.1) side
  where
    low : size < 2 ^ j → 2 * last ≤ 2 * old + 3 * k
    low h = let a = halves j (omega arith) in omega arith

    high : (i : ℕ) → 2 * new + 3 * i ≤ 2 * old + 3 * k → 2 ≤ i → size < 2 ^ i + 3 → 2 * last ≤ 2 * old + 3 * k
    high zero e some room = absurd (omega arith)
    high (suc zero) e some room = absurd (omega arith)
    high (suc (suc zero)) e some room =
        let a : size < 4 + 3 = room in
        let b : last ≤ new + 3 = halves 3 (omega arith) in
        let f : 2 * new + 3 * 2 ≤ 2 * old + 3 * k = e in
        omega arith
    high (suc (suc (suc i))) e some room =
        let b : last ≤ new + 4 = halves 4 few in
        let f = simp unary_clauses at e in
        omega arith

-- Of four halvings, where each costs at most one comparison, and none where no more are left than its window.
pub cost_of_halvings : (s0 s1 s2 s3 n0 n1 n2 n3 n4 : ℕ)
    → n1 ≤ n0 + 1 → n2 ≤ n1 + 1 → n3 ≤ n2 + 1 → n4 ≤ n3 + 1
    → (s0 ≤ 8 → (n1 ≡ n0) × (s1 ≡ s0)) → (s1 ≤ 4 → (n2 ≡ n1) × (s2 ≡ s1)) → (s2 ≤ 2 → (n3 ≡ n2) × (s3 ≡ s2)) → (s3 ≤ 1 → n4 ≡ n3)
    → (j : ℕ) → s0 ≤ 2 ^ j → n4 ≤ n0 + j
cost_of_halvings s0 s1 s2 s3 n0 n1 n2 n3 n4 c1 c2 c3 c4 f1 f2 f3 f4 j h = go j h
  where
    go : (j : ℕ) → s0 ≤ 2 ^ j → n4 ≤ n0 + j
    go zero h =
        let most : s0 ≤ 1 = h in
        let a = f1 (omega arith) in
        let a0 = a.0 in
        let a1 = a.1 in
        let b = f2 (omega arith) in
        let b0 = b.0 in
        let b1 = b.1 in
        let c = f3 (omega arith) in
        let c0 = c.0 in
        let c1 = c.1 in
        let d = f4 (omega arith) in
        omega arith
    go (suc zero) h =
        let most : s0 ≤ 2 = h in
        let a = f1 (omega arith) in
        let a0 = a.0 in
        let a1 = a.1 in
        let b = f2 (omega arith) in
        let b0 = b.0 in
        let b1 = b.1 in
        let c = f3 (omega arith) in
        let c0 = c.0 in
        omega arith
    go (suc (suc zero)) h =
        let most : s0 ≤ 4 = h in
        let a = f1 (omega arith) in
        let a0 = a.0 in
        let a1 = a.1 in
        let b = f2 (omega arith) in
        let b0 = b.0 in
        omega arith
    go (suc (suc (suc zero))) h =
        let most : s0 ≤ 8 = h in
        let a = f1 most in
        let a0 = a.0 in
        omega arith
    go (suc (suc (suc (suc i)))) h = omega arith

-- Before a step that halves there were `old` comparisons, and now there are `new`: of those of k, j are left.
abbrev pub IsHalfLeft : ℕ → ℕ → ℕ → ℕ → Type 0
IsHalfLeft old new size k = (j : ℕ) × (new + j ≤ old + k) × (size ≤ 2 ^ j)

-- at first
pub half_left_at_first : (old size k : ℕ) → size ≤ 2 ^ k → IsHalfLeft old old size k
half_left_at_first old size k h = (k, omega arith, h)

-- a step of one comparison
pub left_by_half : (old new next size left k : ℕ) → (next ≤ new + 1) × (2 * left ≤ size + 1) → 1 < size
    → IsHalfLeft old new size k → IsHalfLeft old next left k
left_by_half old new next size left k cost more (zero, e, room) = let a : size ≤ 1 = room in absurd (omega arith)
left_by_half old new next size left k cost more (suc i, e, room) =
    let one = cost.0 in
    let less = cost.1 in
    let a = simp unary_clauses at room in
    let f = simp unary_clauses at e in
    (i, omega arith, omega arith)

-- at the end, with one more comparison
pub cost_of_halves : (old new last size k : ℕ) → last ≤ new + 1 → IsHalfLeft old new size k → last ≤ old + k + 1
cost_of_halves old new last size k one (j, e, room) = omega arith
