-- What tells whether each item is less than the next.
use Rattle.std.proofs.Common.{◌≡◌, ◌↔◌, ◌+◌, Bool, true, false, List, [], ◌∷◌, get_or, refl, arith}
use Rattle.std.specs.Prelude.{IsTrue}
use Rattle.std.specs.List.{IsAllAdjacentAnswer}
use Rattle.std.specs.Ordering.{is_lt}
use Rattle.std.specs.declared.cmp.Ordering.{Ordering}
use Rattle.std.specs.declared.cmp.Ordering.TheVariants.{Less, Equal, Greater}
use Rattle.commonware_ordered.specs.Strict.{IsStrict}

-- only `Less` passes the test `is_lt`
less_from_test : (o : Ordering) → true ≡ is_lt o → o ≡ Less
less_from_test Less e = refl
less_from_test Equal e = cc
less_from_test Greater e = cc

-- where each item was tested whether it is less than the next, the result tells strictly increasing lists
pub strict_told : {T : Type 0} (cmp : T → T → Ordering) (xs : List T) (r : Bool) → IsAllAdjacentAnswer (λ x y b. b ≡ is_lt (cmp x y)) xs r → IsTrue r ↔ IsStrict cmp xs
strict_told cmp xs true told = (λ _ k d high. less_from_test (cmp (get_or xs k d) (get_or xs (k + 1) d)) (told k d high), λ _. refl)
strict_told cmp [] false told = absurd (omega (arith, told.1))
strict_told cmp (x ∷ xs) false told = (λ t. absurd (cc), λ s. let less = s told.0 x told.1 in let not_less = told.2 x in absurd (cc))
