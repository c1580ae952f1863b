use Rattle.std.proofs.Common.{◌≡◌, ◌≢◌, ◌∙◌, ◌+◌, ℕ, List, [], ◌∷◌, length, refl, subst, sym, arith}
use Rattle.std.specs.Prelude.{Err, IfOk, Ok, Result}
use Rattle.commonware_views.specs.Lists.{AreItemsOf}
use Rattle.commonware_views.specs.laws.ItemLaws.{same_items}
use Rattle.commonware_c.proofs.pairs.rows_of.Goals as goal

-- a list of no items
empty_list : (s : List ℕ) → length s ≡ 0 → s ≡ []
empty_list [] e = refl
empty_list (b ∷ s) e = absurd (omega (arith, e))

-- no bytes are no items, of whatever size
no_rows : (size other : ℕ) (s : List ℕ) → size ≢ 0 → s ≡ [] → (r : Result (List (List ℕ)) ℕ) → IfOk r (AreItemsOf size s) → IfOk r (AreItemsOf other s)
no_rows size other s some none (Ok rows) are =
    let empty : rows ≡ [] = same_items size some rows [] are.each tt (are.together ∙ none) in
    subst (AreItemsOf other s) (sym empty) (record { each = tt; together = sym none })
no_rows size other s some none (Err n) are = tt

pub returns-then-pairs-eq0-clause-rows : goal.returns-then-pairs-eq0-clause-rows
returns-then-pairs-eq0-clause-rows c =
    no_rows c.args.key_size (c.args.key_size + c.args.value_size) c.args.pairs.now c.requires (empty_list c.args.pairs.now c.if-pairs-eq0.true) c.whole_rows.result c.whole_rows.ensures.rows
