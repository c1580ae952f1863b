-- What is seen of a watched reader or writer.
use Rattle.std.specs.Prelude.{ℕ, Bool, true, false, ◌==◌, ◌&&◌, not, if◌then◌else◌, Result, Ok, Err}

-- a reader or writer, whether one of its calls has failed, and whether its last read into some room was at the end
pub record Watch (S : Type 0) : Type 0 where
  pub inner : S
  pub failed : Bool
  pub ended : Bool

-- whether a reader has ended after a read into this much room returned r
abbrev pub ended_after : {E : Type 0} → Bool → ℕ → Result ℕ E → Bool
ended_after ended room (Ok n) = if room == 0 then ended else n == 0
ended_after ended room (Err e) = if room == 0 then ended else false

-- whether a write of len bytes that returned r is a failure: an error, or no byte taken where len is not 0
abbrev pub is_failed_write : {E : Type 0} → ℕ → Result ℕ E → Bool
is_failed_write len (Ok n) = n == 0 && not (len == 0)
is_failed_write len (Err e) = true
