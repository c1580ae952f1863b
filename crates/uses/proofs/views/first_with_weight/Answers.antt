-- The keys and values side by side are the pairs, of which none is left once either list has ended.
use Rattle.std.proofs.Common.{◌≡◌, ◌∙◌, ◌∷◌, [], ℕ, List, ap, refl, sym, ⊎_elim}
use Rattle.std.specs.Prelude.{bytes_eq, find, option_map, zip}
use Rattle.std.specs.Map.{keys_of, values_of}
use Rattle.uses.proofs.views.first_with_weight.Goals as goal

-- pairs are their keys beside their values
pairs_of_both : (pairs : List (List ℕ × List ℕ)) → zip (keys_of pairs) (values_of pairs) ≡ pairs
pairs_of_both [] = refl
pairs_of_both (p ∷ pairs) = ap (λ l. p ∷ l) (pairs_of_both pairs)

-- beside nothing there are no pairs
beside_nothing : (keys : List (List ℕ)) → zip {K = List ℕ} {X = List ℕ} keys [] ≡ []
beside_nothing [] = refl
beside_nothing (key ∷ keys) = refl

pub loop-key-init : goal.loop-key-init
loop-key-init c =
    let both = c.zip-key-items.ensures in
    let keys = both.first ∙ c.iter.ensures ∙ c.keys.ensures in
    let values = both.second ∙ c.iter-2.ensures ∙ c.values.ensures in
    let all = ap (λ z. zip z.a z.b) c.into_iter-key-iterator.ensures.into_iter_gives
    ∙ (λ j. zip (keys j) (values j)) ∙ pairs_of_both c.args.weights.now in
    ap (find (λ (pair : List ℕ × List ℕ). bytes_eq pair.1 c.args.weight.now)) (sym all)

pub returns : goal.returns
returns c =
    let it = c.loop-key.key-iterator in
    let none : zip it.a it.b ≡ [] =
    ⊎_elim (λ u. ap (λ l. zip l it.b) u.1.0) (λ u. ap (zip it.a) u.1.0 ∙ beside_nothing it.a) c.in-None.ensures.steps in
    sym (ap (option_map (λ (pair : List ℕ × List ℕ). pair.0)) (c.loop-key.invariant
    ∙ ap (find (λ (pair : List ℕ × List ℕ). bytes_eq pair.1 c.args.weight.now)) none))
