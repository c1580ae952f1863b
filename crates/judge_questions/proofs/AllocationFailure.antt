-- Where the only allocation fails.
use Rattle.std.specs.Prelude.{Err, IfErr, Ok, Result}

-- what holds anyway holds at an error
pub at_error : {X E : Type 0} (r : Result X E) (P : Type 0) → P → IfErr r (λ _. P)
at_error (Ok x) P h = tt
at_error (Err e) P h = h
