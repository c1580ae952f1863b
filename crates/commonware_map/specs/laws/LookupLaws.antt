-- What a look-up finds.
use Rattle.std.specs.Prelude.{◌≡◌, zero, suc, Bool, cond, false, List, [], ◌∷◌, None, Some, refl}
use Rattle.std.specs.List.{All}
use Rattle.std.specs.Map.{keys_of, lookup}
use Rattle.std.proofs.Common.{ap, arith, ◌∙◌}

-- where no key passes, a look-up finds none
pub lookup_none : {K V : Type 0} (test : K → Bool) (es : List (K × V)) → All (λ k. test k ≡ false) (keys_of es)
    → lookup test es ≡ None
lookup_none test [] h = refl
lookup_none test (e ∷ es) h =
    ap (λ b. cond b (Some e.1) (lookup test es)) (h zero e.0 (omega arith))
    ∙ lookup_none test es (λ k d high. h (suc k) d (omega arith))
