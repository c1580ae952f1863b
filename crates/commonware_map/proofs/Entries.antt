-- What is inserted into a tree of pairs, as what is inserted into a list of pairs by their keys.
use Rattle.std.proofs.Common.{◌≡◌, Bool, true, false, ◌||◌, List, [], ◌∷◌, ◌++◌, cond, refl, sym, ◌∙◌, ap}
use Rattle.std.specs.Prelude.{None, Option, Some}
use Rattle.std.specs.BTreeMap.{insert_entry, is_at}
use Rattle.std.specs.BTreeSet.{insert_key}
use Rattle.std.specs.Cmp.{IsTotalOrder}
use Rattle.std.specs.Iterator.Adapters.{zip_steps}
use Rattle.std.specs.List.{list_any, zip}
use Rattle.std.specs.List.Sorted.{IsStrictlySortedBy}
use Rattle.std.specs.Map.{keys_of, lookup}
use Rattle.std.specs.Option.{is_some}
use Rattle.std.specs.Ordering.{is_eq, match_ordering}
use Rattle.std.specs.Vec.Iter.{into_iter_steps}
use Rattle.std.specs.declared.cmp.Ordering.{Ordering}
use Rattle.std.specs.declared.cmp.Ordering.TheVariants.{Less, Equal, Greater}
use Rattle.std.specs.declared.iter.Zip.{Zip}
use Rattle.std.specs.declared.vec.IntoIter.{IntoIter}
use Rattle.std.proofs.lemmas.Map.{lookup-none}
use Rattle.std.proofs.lemmas.Map.Entries.{lookup_tail, none_below_head}
use Rattle.std.proofs.lemmas.Map.Keys.{sorted_tail}
use Rattle.std.proofs.lemmas.Map.Made.{is_some-lookup}
use Rattle.std.proofs.lemmas.Option.{same_Some}
use Rattle.commonware_ordered.specs.Put.{IsPut}
use Rattle.commonware_ordered.proofs.IncreasingKeys.{any_of_keys, put_next}
use Rattle.commonware_ordered.proofs.Zipped.{LeftOf, left_more}

-- `None` is no `Some`
none_is_some : {X : Type 0} {o : Option X} {x : X} → o ≡ None → o ≡ Some x → ⊥
none_is_some e f = cc

module _ {K V : Type 0} (cmp : K → K → Ordering) where
  -- where no key is equal, an entry goes where the pair would by its key
  entry_as_key : (es : List (K × V)) (k : K) (v : V) → list_any (λ p. is_eq (cmp k p.0)) es ≡ false → insert_entry cmp es k v ≡ insert_key (λ p q. cmp p.0 q.0) es (k, v)
  entry_as_key [] k v n = refl
  entry_as_key (e ∷ es) k v n = go (entry_as_key es k v) (cmp k e.0) n
    where
      go : (list_any (λ p. is_eq (cmp k p.0)) es ≡ false → insert_entry cmp es k v ≡ insert_key (λ p q. cmp p.0 q.0) es (k, v)) → (c : Ordering) → (is_eq c || list_any (λ p. is_eq (cmp k p.0)) es) ≡ false
          → match_ordering c ((k, v) ∷ e ∷ es) ((e.0, v) ∷ es) (e ∷ insert_entry cmp es k v) ≡ match_ordering c ((k, v) ∷ e ∷ es) (e ∷ es) (e ∷ insert_key (λ p q. cmp p.0 q.0) es (k, v))
      go rest Less m = refl
      go rest Equal m = cc
      go rest Greater m = ap (λ l. e ∷ l) (rest m)

  -- whether the tree has a key
  any_by_lookup : (es : List (K × V)) (k : K) → list_any (λ p. is_eq (cmp k p.0)) es ≡ is_some (lookup (is_at (cmp k)) es)
  any_by_lookup es k = sym (is_some-lookup (is_at (cmp k)) es ∙ any_of_keys (is_at (cmp k)) es)

  -- a pair whose key the tree lacks
  pub put_where_none : (es fs : List (K × V)) (k : K) (v : V) → lookup (is_at (cmp k)) es ≡ None → fs ≡ insert_entry cmp es k v → IsPut (λ p q. cmp p.0 q.0) es (k, v) true fs
  put_where_none es fs k v none is =
      let absent : list_any (λ p. is_eq (cmp k p.0)) es ≡ false = any_by_lookup es k ∙ ap is_some none in
      (absent, is ∙ entry_as_key es k v absent)

  -- a key that the tree has, with the value that it has there
  entry_present : IsTotalOrder cmp → (es : List (K × V)) (k : K) (v : V) → IsStrictlySortedBy cmp (keys_of es) → lookup (is_at (cmp k)) es ≡ Some v → insert_entry cmp es k v ≡ es
  entry_present total [] k v s f = cc
  entry_present total (e ∷ es) k v s f = go (entry_present total es k v (sorted_tail cmp e.0 (keys_of es) s)) (cmp k e.0) refl f
    where
      go : (lookup (is_at (cmp k)) es ≡ Some v → insert_entry cmp es k v ≡ es) → (c : Ordering) → cmp k e.0 ≡ c → cond (is_eq c) (Some e.1) (lookup (is_at (cmp k)) es) ≡ Some v
          → match_ordering c ((k, v) ∷ e ∷ es) ((e.0, v) ∷ es) (e ∷ insert_entry cmp es k v) ≡ e ∷ es
      go rest Less is g = absurd (none_is_some (sym (lookup_tail (is_at (cmp k)) e es (ap is_eq is)) ∙ lookup-none (is_at (cmp k)) (e ∷ es) (none_below_head total k e es s is)) g)
      go rest Equal is g = ap (λ w. (e.0, w) ∷ es) (sym (same_Some e.1 v g))
      go rest Greater is g = ap (λ l. e ∷ l) (rest g)

  -- a pair whose key the tree has
  pub put_where_some : IsTotalOrder cmp → (es fs : List (K × V)) (k : K) (v w : V) → IsStrictlySortedBy cmp (keys_of es) → lookup (is_at (cmp k)) es ≡ Some w → fs ≡ insert_entry cmp es k w → IsPut (λ p q. cmp p.0 q.0) es (k, v) false fs
  put_where_some total es fs k v w s some is = (any_by_lookup es k ∙ ap is_some some, is ∙ entry_present total es k w s some)

-- pairs of strictly increasing keys are inserted into a tree in turn: one more pair was inserted
pub pair_more : {K V Z : Type 0} {cmp : K → K → Ordering} → IsTotalOrder cmp → (es done more : List (K × V)) (s t : Zip (IntoIter K Z) (IntoIter V Z)) (p : K × V) (new : Bool) → IsStrictlySortedBy cmp (keys_of es) → LeftOf es done s
    → zip_steps into_iter_steps into_iter_steps s (Some p) t → IsPut (λ p q. cmp p.0 q.0) done p new more → LeftOf es more t
pair_more total es done more s t p new strict h w put =
    left_more es done more s t p h w (put_next total done p _ es more new (sym (λ j. done ++ zip (w.0.0 j) (w.1.0 j)) ∙ h.split) strict put)
