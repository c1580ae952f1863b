-- Arrays of one size that follow one another.
use Rattle.std.proofs.Common.{◌≡◌, ◌≢◌, ◌∙◌, ℕ, suc, ◌<◌, List, [], ◌∷◌, length, get_or, arith}
use Rattle.std.specs.List.{flat_map}
use Rattle.commonware_views.specs.Lists.{AreItemsOf}
use Rattle.commonware_views.specs.laws.ItemLaws.{AreLong, same_items}

-- what is told of each by its index
pub arrays_are_long : (size : ℕ) (arrays : List (List ℕ)) → ((i : ℕ) → i < length arrays → length (get_or arrays i []) ≡ size) → AreLong size arrays
arrays_are_long size [] told = tt
arrays_are_long size (x ∷ arrays) told = (told 0 (omega arith), arrays_are_long size arrays (λ i h. told (suc i) (omega (arith, h))))

-- the items of their bytes are the arrays
pub items_are_arrays : (size : ℕ) → size ≢ 0 → (arrays items : List (List ℕ)) (s : List ℕ)
    → ((i : ℕ) → i < length arrays → length (get_or arrays i []) ≡ size) → s ≡ flat_map (λ x. x) arrays → AreItemsOf size s items → items ≡ arrays
items_are_arrays size some arrays items s told flat are =
    same_items size some items arrays are.each (arrays_are_long size arrays told) (are.together ∙ flat)
