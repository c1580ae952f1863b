-- A list that says one thing a number of times.
use Rattle.std.proofs.Common.{◌≡◌, ℕ, zero, suc, ◌-◌, ◌<◌, ◌∷◌, ap, arith, replicate}

-- more than no times is once, and then the others
pub replicate_first : {T : Type 0} (n : ℕ) (x : T) → 0 < n → replicate n x ≡ x ∷ replicate (n - 1) x
replicate_first zero x some = absurd (omega (arith, some))
replicate_first (suc n) x some = let same : n ≡ suc n - 1 = omega arith in ap (λ k. x ∷ replicate k x) same
