-- What is so of a result.
use Rattle.std.specs.Prelude.{Err, IfErr, IfOk, Ok, Result}

-- an error of which something is so
pub on_error : {X E : Type 0} (B : Type 0) (r : Result X E) → B → IfErr r (λ _. B)
on_error B (Ok x) b = tt
on_error B (Err e) b = b

-- what follows of a value that is there
pub if_ok_so : {X E : Type 0} (P Q : X → Type 0) (r : Result X E) → ((x : X) → P x → Q x) → IfOk r P → IfOk r Q
if_ok_so P Q (Ok x) step h = step x h
if_ok_so P Q (Err e) step h = tt

-- what follows of an error of which something is so
pub if_err_so : {X E : Type 0} (A B : Type 0) (r : Result X E) → (A → B) → IfErr r (λ _. A) → IfErr r (λ _. B)
if_err_so A B (Ok x) step h = tt
if_err_so A B (Err e) step h = step h
