use Rattle.std.proofs.Common.{◌≡◌, ◌∙◌, ℕ, zero, suc, Bor, List, [], ◌∷◌, None, Some, Option, get_or, slice_get, unwrap_or, option_copied, ap, refl}
use Rattle.commonware_views.proofs.repeats.item_or_empty.Goals as goal

-- the value behind a reference, or behind the one in its place
copied_or : (o : Option (Bor (List ℕ))) (b : Bor (List ℕ)) → (unwrap_or o b).now ≡ unwrap_or (option_copied o) b.now
copied_or None b = refl
copied_or (Some r) b = refl

-- the item at a position, or what is in its place
read_or : (xs : List (List ℕ)) (i : ℕ) (d : List ℕ) → unwrap_or (slice_get xs i) d ≡ get_or xs i d
read_or [] i d = refl
read_or (x ∷ xs) zero d = refl
read_or (x ∷ xs) (suc i) d = read_or xs i d

pub returns : goal.returns
returns c =
    ap (λ b. b.now) c.unwrap_or.ensures ∙ copied_or c.get.result _ ∙ ap (λ o. unwrap_or o []) c.get.ensures
    ∙ read_or c.args.items.now c.args.place []
