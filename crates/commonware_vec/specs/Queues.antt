-- A queue of at most `capacity` items.
use Rattle.std.specs.Prelude.{ℕ, List}

-- The items, the oldest first, and the most that there can be.
pub record Queue (T : Type 0) : Type 0 where
  pub items : List T
  pub capacity : ℕ
