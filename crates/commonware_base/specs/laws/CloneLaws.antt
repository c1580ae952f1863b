-- Clones that equal their source: the proofs of the law of `EqClone`.
use Rattle.std.specs.Prelude.{◌≡◌, ◌&&◌, Bool, true, List, [], ◌∷◌, refl}
use Rattle.std.specs.Cmp.{IsEquivalence}
use Rattle.std.specs.Cmp.Lexicographic.{pointwise}
use Rattle.std.specs.List.{AllZip}
use Rattle.std.proofs.Common.{sym, subst}

-- a clone that is its source equals it
pub equal_from_same : {X : Type 0} {eq : X → X → Bool} → IsEquivalence eq → (x y : X) → y ≡ x → eq x y ≡ true
equal_from_same {X} {eq} e x y same = subst (λ z. eq x z ≡ true) (sym same) (e.refl x)

-- a list of clones equals the list of their sources, where each clone equals its source
pub equal_from_all_zip : {X : Type 0} {eq : X → X → Bool} (C : X → X → Type 0) → ((x y : X) → C x y → eq x y ≡ true)
    → (xs ys : List X) → AllZip C xs ys → pointwise eq xs ys ≡ true
equal_from_all_zip C each [] [] z = refl
equal_from_all_zip C each [] (y ∷ ys) z = absurd z
equal_from_all_zip C each (x ∷ xs) [] z = absurd z
equal_from_all_zip {X} {eq} C each (x ∷ xs) (y ∷ ys) z = λ i. each x y z.0 i && equal_from_all_zip C each xs ys z.1 i
