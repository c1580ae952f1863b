-- What holds of the error that a function passes on by `?`.
use Rattle.std.proofs.Common.{◌≡◌, Result, Ok, Err, sym, subst, IfErr}
use Rattle.std.specs.Result.{IsErrAnd}

-- what holds of an error holds of the error of a result that has that one
pub err_along : {T E : Type 0} (r : Result T E) (e : E) (P : E → Type 0) → IsErrAnd r (λ x. x ≡ e) → P e → IfErr r P
err_along (Ok v) e P h p = absurd h
err_along (Err x) e P h p = subst P (sym h) p
