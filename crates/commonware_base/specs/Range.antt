-- Which numbers a range holds.
use Rattle.std.specs.Prelude.{ℕ, ◌<◌, ◌≤◌, Option, Some, None}
use Rattle.std.specs.Option.{option_map}
use Rattle.std.specs.declared.num.NonZeroUsize.{NonZeroUsize}
use Rattle.std.specs.declared.ops.Bound.{Bound}
use Rattle.std.specs.declared.ops.Bound.TheVariants.{Included, Excluded, Unbounded}
use Rattle.std.specs.Int.NonZero.{non_zero_usize_get}
use Rattle.std.specs.Range.Bound.{bound_map}

-- What a range is seen as: a lower bound, where it has one, and an upper bound.
pub record Bounds (T : Type 0) : Type 0 where
  pub lower : Option T
  pub upper : Bound T

-- n is not below the lower bound, where there is one
abbrev pub IsAbove : Option ℕ → ℕ → Type 0
IsAbove (Some lower) n = lower ≤ n
IsAbove None n = Unit {0}

-- n is at most the upper bound where it is included, below it where it is excluded
abbrev pub IsBelow : Bound ℕ → ℕ → Type 0
IsBelow (Included upper) n = n ≤ upper
IsBelow (Excluded upper) n = n < upper
IsBelow Unbounded n = Unit {0}

-- The range holds the number: it is between the bounds.
pub record Within (range : Bounds ℕ) (n : ℕ) : Type 0 where
  pub above : IsAbove range.lower n
  pub below : IsBelow range.upper n

-- the range of one number alone
abbrev pub exactly : {T : Type 0} → T → Bounds T
exactly n = record { lower = Some n; upper = Included n }

-- the same bounds, each seen as a number
abbrev pub numbers_of : {T : Type 0} → (T → ℕ) → Bounds T → Bounds ℕ
numbers_of number range = record { lower = option_map number range.lower; upper = bound_map number range.upper }

-- a bound that is not 0, as a number
abbrev pub bound_as_number : Bound NonZeroUsize → Bound ℕ
bound_as_number = bound_map non_zero_usize_get

-- bounds that are not 0, as numbers
abbrev pub as_numbers : Bounds NonZeroUsize → Bounds ℕ
as_numbers = numbers_of non_zero_usize_get
