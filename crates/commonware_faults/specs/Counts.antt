-- What a whole number of any type is as a number of participants.
use Rattle.std.specs.Prelude.{ℕ, ◌+◌, ◌-◌, ◌*◌, ◌/◌, ◌^◌, ◌<◌, ◌≤◌, ℤ, pos, negsuc}

-- the number is from 0 to u32::MAX
abbrev pub IsU32 : ℤ → Type 0
IsU32 (pos n) = n < 2 ^ 32
IsU32 (negsuc n) = ⊥

-- a committee size: from 1 to u32::MAX
abbrev pub IsCommitteeSize : ℤ → Type 0
IsCommitteeSize (pos n) = (1 ≤ n) × (n < 2 ^ 32)
IsCommitteeSize (negsuc n) = ⊥

-- the number itself, where it isn't negative
abbrev pub amount : ℤ → ℕ
amount (pos n) = n
amount (negsuc n) = 0

-- how many of n may be faulty in the model `N3f1`
abbrev pub n3f1_faults : ℕ → ℕ
n3f1_faults n = (n - 1) / 3

-- how many of n may be faulty in the model `N5f1`
abbrev pub n5f1_faults : ℕ → ℕ
n5f1_faults n = (n - 1) / 5

-- f is the greatest number for which k times f and one more is up to n
pub record GreatestFit (k n f : ℕ) : Type 0 where
  pub fits : k * f + 1 ≤ n
  pub greatest : (g : ℕ) → k * g + 1 ≤ n → g ≤ f
