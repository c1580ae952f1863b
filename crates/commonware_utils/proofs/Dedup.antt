-- What is left of a list that has an item, without the items that equal the ones before them, has an item.
use Rattle.std.proofs.Common.{◌≡◌, ◌≤◌, subst, sym, length, List, [], ◌∷◌, Bool, true, false, rules}
use Rattle.std.specs.List.{items_where_true}
use Rattle.std.specs.List.Retain.{DiffersFromLast, IsFiltered, ReturnsInTurn}

-- the first item stays
first_stays : {T : Type 0} (eq : T → T → Bool) (items : List T) (stays : List Bool) (last : List T) → 1 ≤ length items → length stays ≡ length items → ReturnsInTurn (DiffersFromLast eq) [] stays items last → 1 ≤ length (items_where_true stays items)
first_stays eq [] stays last some len told = search rules
first_stays eq (x ∷ items) [] last some len told = search rules
first_stays eq (x ∷ items) (true ∷ stays) last some len told = search rules
first_stays eq (x ∷ items) (false ∷ stays) last some len told = search rules

pub dedup_leaves_some : {T : Type 0} (eq : T → T → Bool) (items left : List T) → 1 ≤ length items → IsFiltered (DiffersFromLast eq) [] items left → 1 ≤ length left
dedup_leaves_some eq items left some h = subst (λ l. 1 ≤ length l) (sym h.4) (first_stays eq items h.0 h.1 some h.2 h.3)
