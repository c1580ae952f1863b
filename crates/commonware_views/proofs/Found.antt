-- What a look-up found.
use Rattle.std.proofs.Common.{◌≡◌, ◌∙◌, ◌↔◌, ℕ, List, ap, refl}
use Rattle.std.specs.Prelude.{IsTrue, None, Some, is_some}
use Rattle.std.specs.declared.option.Option.{Option}
use Rattle.std.specs.List.{Contains, slice_get}
use Rattle.std.proofs.lemmas.Option.{get_or_from_slice_get, slice_get-get_or, slice_get_within}

-- a place is found exactly where the list has the item
pub found_contains : {T : Type 0} (xs : List T) (x : T) (r : Option ℕ) → ((p : ℕ) → (r ≡ Some p) ↔ (slice_get xs p ≡ Some x))
    → IsTrue (is_some r) ↔ Contains xs x
found_contains xs x None h = (
  (λ never. absurd (cc)),
  (λ has. let never : None ≡ Some has.0 = (h has.0).1 (slice_get-get_or xs has.0 x has.1 ∙ ap Some has.2) in absurd (cc)),
)
found_contains xs x (Some p) h = (
  (λ _. let at = (h p).0 refl in (p, slice_get_within xs p x at, get_or_from_slice_get xs p x x at)),
  (λ _. refl),
)
