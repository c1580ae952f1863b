-- Ranges whose bounds are not 0.
use Rattle.std.specs.Prelude.{◌≢◌, ℕ, Option, Some, None}
use Rattle.std.specs.declared.ops.Bound.{Bound}
use Rattle.std.specs.declared.ops.Bound.TheVariants.{Included, Excluded, Unbounded}
use Rattle.commonware_base.specs.Range.{Bounds}

-- a lower bound that isn't 0, or none
abbrev pub IsLowerNotZero : Option ℕ → Type 0
IsLowerNotZero (Some n) = n ≢ 0
IsLowerNotZero None = Unit {0}

-- an upper bound that isn't 0, or none
abbrev pub IsUpperNotZero : Bound ℕ → Type 0
IsUpperNotZero (Included n) = n ≢ 0
IsUpperNotZero (Excluded n) = n ≢ 0
IsUpperNotZero Unbounded = Unit {0}

-- no bound of the range is 0, as the length of a non-empty list requires
abbrev pub HasNoZero : Bounds ℕ → Type 0
HasNoZero range = IsLowerNotZero range.lower × IsUpperNotZero range.upper

-- the range of all numbers
abbrev pub full : Bounds ℕ
full = record { lower = None; upper = Unbounded }
