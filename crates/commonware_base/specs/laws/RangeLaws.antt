-- A range holds a number, or it doesn't.
use Rattle.std.specs.Prelude.{ℕ, Option, Some, None, ◌⊎◌}
use Rattle.std.proofs.Common.{arith, inl, inr}
use Rattle.std.proofs.lemmas.Bool.{cases_lt}
use Rattle.std.specs.declared.ops.Bound.{Bound}
use Rattle.std.specs.declared.ops.Bound.TheVariants.{Included, Excluded, Unbounded}
use Rattle.commonware_base.specs.Range.{Bounds, IsAbove, IsBelow, Within}

-- n is not below a lower bound, or it is
above_or_not : (b : Option ℕ) (n : ℕ) → IsAbove b n ⊎ (¬ IsAbove b n)
above_or_not (Some a) n = elim (cases_lt n a) [ inl p ↦ inr (λ q. omega arith) | inr p ↦ inl p ]
above_or_not None n = inl tt

-- n is within an upper bound, or it is not
below_or_not : (b : Bound ℕ) (n : ℕ) → IsBelow b n ⊎ (¬ IsBelow b n)
below_or_not (Included a) n = elim (cases_lt a n) [ inl p ↦ inr (λ q. omega arith) | inr p ↦ inl p ]
below_or_not (Excluded a) n = elim (cases_lt n a) [ inl p ↦ inl p | inr p ↦ inr (λ q. omega arith) ]
below_or_not Unbounded n = inl tt

-- a range holds n, or it does not
pub within_or_not : (r : Bounds ℕ) (n : ℕ) → Within r n ⊎ (¬ Within r n)
within_or_not r n = elim (above_or_not r.lower n) [
  | inr p ↦ inr (λ w. p w.above)
  | inl p ↦ elim (below_or_not r.upper n)
      [ inr q ↦ inr (λ w. q w.below) | inl q ↦ inl (record { above = p; below = q }) ]
]
