-- Pairs of strictly increasing keys: what comes after all of them, and what equals the last.
use Rattle.std.proofs.Common.{◌≡◌, ℕ, suc, ◌+◌, ◌<◌, Bool, true, false, ◌||◌, List, [], ◌∷◌, ◌++◌, length, get_or, refl, sym, ◌∙◌, ap, subst, arith, ⊎_elim, length-append}
use Rattle.std.specs.BTreeSet.{insert_key}
use Rattle.std.specs.Cmp.{IsTotalOrder, eq_by_cmp_equiv}
use Rattle.std.specs.List.{AllByRecursion, list_any, zip}
use Rattle.std.specs.List.Sorted.{IsStrictlySortedBy}
use Rattle.std.specs.Map.{keys_of}
use Rattle.std.specs.Ordering.{MatchOrdering, eq_by_cmp, is_eq, match_ordering, ordering_reverse}
use Rattle.std.specs.declared.cmp.Ordering.{Ordering}
use Rattle.std.specs.declared.cmp.Ordering.TheVariants.{Less, Equal, Greater}
use Rattle.std.proofs.lemmas.Bool.{cases_lt}
use Rattle.std.proofs.lemmas.Cmp.{on_total}
use Rattle.std.proofs.lemmas.Map.Keys.{Less-from_sorted}
use Rattle.std.proofs.lemmas.Map.Steps.{list_any_congr}
use Rattle.std.proofs.lemmas.Map.Views.{list_any-from_Contains}
use mathlib.Core.Bool.{true≢false}
use Rattle.commonware_ordered.specs.Put.{IsPut}

module _ {X : Type 0} (P : X → Type 0) where
  -- what holds of each item holds of all
  all_from_each : (xs : List X) → ((k : ℕ) (d : X) → k < length xs → P (get_or xs k d)) → AllByRecursion P xs
  all_from_each [] f = tt
  all_from_each (x ∷ xs) f = (f 0 x (omega arith), all_from_each xs (λ k d h. f (suc k) d (omega arith)))

  -- what holds of all items and of one more holds of all of these
  all_more : (xs : List X) (x : X) → AllByRecursion P xs → P x → AllByRecursion P (xs ++ x ∷ [])
  all_more [] x a p = (p, tt)
  all_more (z ∷ xs) x a p = (a.0, all_more xs x a.1 p)

  -- what holds of all items holds of one in their midst
  all_amidst : (xs : List X) (x : X) (ys : List X) → AllByRecursion P (xs ++ x ∷ ys) → P x
  all_amidst [] x ys a = a.0
  all_amidst (z ∷ xs) x ys a = all_amidst xs x ys a.1

module _ {K V : Type 0} where
  -- as many values as keys, and one more of both
  zip-push : (ks : List K) (vs : List V) (k : K) (v : V) → length vs ≡ length ks → zip (ks ++ k ∷ []) (vs ++ v ∷ []) ≡ zip ks vs ++ (k, v) ∷ []
  zip-push [] [] k v e = refl
  zip-push [] (w ∷ vs) k v e = absurd (omega arith)
  zip-push (l ∷ ks) [] k v e = absurd (omega arith)
  zip-push (l ∷ ks) (w ∷ vs) k v e = ap (λ es. (l, w) ∷ es) (zip-push ks vs k v (omega arith))

  -- what holds of all keys holds of the pairs' keys
  pub all_beside : (P : K → Type 0) (ks : List K) (vs : List V) → AllByRecursion P ks → AllByRecursion (λ p. P p.0) (zip ks vs)
  all_beside P [] vs a = tt
  all_beside P (k ∷ ks) [] a = tt
  all_beside P (k ∷ ks) (v ∷ vs) a = (a.0, all_beside P ks vs a.1)

  -- and the other way round
  all_aside : (P : K → Type 0) (ks : List K) (vs : List V) → length vs ≡ length ks → AllByRecursion (λ p. P p.0) (zip ks vs) → AllByRecursion P ks
  all_aside P [] vs e a = tt
  all_aside P (k ∷ ks) [] e a = absurd (omega arith)
  all_aside P (k ∷ ks) (v ∷ vs) e a = (a.0, all_aside P ks vs (omega arith) a.1)

  -- a key that passes is the key of a pair that does
  pub any_of_keys : (test : K → Bool) (es : List (K × V)) → list_any test (keys_of es) ≡ list_any (λ p. test p.0) es
  any_of_keys test [] = refl
  any_of_keys test (e ∷ es) = ap (λ b. test e.0 || b) (any_of_keys test es)

  -- the keys of the pairs before one
  all_of_keys : (P : K → Type 0) (es : List (K × V)) → AllByRecursion P (keys_of es) → AllByRecursion (λ p. P p.0) es
  all_of_keys P [] a = tt
  all_of_keys P (e ∷ es) a = (a.0, all_of_keys P es a.1)

  -- the keys of pairs with one in their midst
  keys_amidst : (es : List (K × V)) (p : K × V) (fs : List (K × V)) → keys_of (es ++ p ∷ fs) ≡ keys_of es ++ p.0 ∷ keys_of fs
  keys_amidst [] p fs = refl
  keys_amidst (e ∷ es) p fs = ap (λ l. e.0 ∷ l) (keys_amidst es p fs)

module _ {X : Type 0} {cmp : X → X → Ordering} (o : IsTotalOrder cmp) where
  -- what is greater than all goes to the end
  insert_last : (r : List X) (x : X) → AllByRecursion (λ y. cmp y x ≡ Less) r → insert_key cmp r x ≡ r ++ x ∷ []
  insert_last [] x a = refl
  insert_last (z ∷ r) x a =
      ap (λ c. match_ordering c (x ∷ z ∷ r) (z ∷ r) (z ∷ insert_key cmp r x)) (o.antisymm x z ∙ ap ordering_reverse a.0)
      ∙ ap (λ l. z ∷ l) (insert_last r x a.1)

  -- and equals none of them
  none_equal : (r : List X) (x : X) → AllByRecursion (λ y. cmp y x ≡ Less) r → list_any (eq_by_cmp cmp x) r ≡ false
  none_equal [] x a = refl
  none_equal (z ∷ r) x a = ap (λ c. is_eq c || list_any (eq_by_cmp cmp x) r) (o.antisymm x z ∙ ap ordering_reverse a.0) ∙ none_equal r x a.1

  -- what is greater than all is appended
  pub put_last : (r s : List X) (x : X) → AllByRecursion (λ y. cmp y x ≡ Less) r → s ≡ r ++ x ∷ [] → IsPut cmp r x true s
  put_last r s x a is = (none_equal r x a, is ∙ sym (insert_last r x a))

  -- and is there once it is inserted
  pub put_at_end : (r s : List X) (x : X) (new : Bool) → AllByRecursion (λ y. cmp y x ≡ Less) r → IsPut cmp r x new s → s ≡ r ++ x ∷ []
  put_at_end r s x true a h = h.1 ∙ insert_last r x a
  put_at_end r s x false a h = absurd (true≢false (sym h.0 ∙ none_equal r x a))

  -- strictly increasing items, and one that is greater than all
  pub strict_more : (r : List X) (x : X) → IsStrictlySortedBy cmp r → AllByRecursion (λ y. cmp y x ≡ Less) r → IsStrictlySortedBy cmp (r ++ x ∷ [])
  unfolding IsStrictlySortedBy
  strict_more [] x s a = (tt, tt)
  strict_more (z ∷ r) x s a = (all_more (λ y. cmp z y ≡ Less) r x s.0 a.0, strict_more r x s.1 a.1)

  -- the items before one are less than it
  pub below_next : (xs : List X) (x : X) (ys : List X) → IsStrictlySortedBy cmp (xs ++ x ∷ ys) → AllByRecursion (λ y. cmp y x ≡ Less) xs
  unfolding IsStrictlySortedBy
  below_next [] x ys s = tt
  below_next (z ∷ xs) x ys s = (all_amidst (λ y. cmp z y ≡ Less) xs x ys s.0, below_next xs x ys s.1)

  module _ (r : List X) (x last : X) (n : ℕ) (sorted : IsStrictlySortedBy cmp r) (end : n + 1 ≡ length r) (at : (d : X) → last ≡ get_or r n d) where
    -- where the last item is less, so are all
    pub below_all : cmp last x ≡ Less → AllByRecursion (λ y. cmp y x ≡ Less) r
    below_all e = all_from_each (λ y. cmp y x ≡ Less) r each
      where
        each : (k : ℕ) (d : X) → k < length r → cmp (get_or r k d) x ≡ Less
        each k d h = ⊎_elim
            (λ low. o.trans (get_or r k d) (get_or r n d) x (Less-from_sorted cmp r k n d sorted low (omega arith)) (ap (λ z. cmp z x) (sym (at d)) ∙ e))
            (λ high. let same : n ≡ k = omega arith in subst (λ i. cmp (get_or r i d) x ≡ Less) same (ap (λ z. cmp z x) (sym (at d)) ∙ e))
            (cases_lt k n)

    -- where the last item is equal, one is
    pub one_equals : cmp last x ≡ Equal → list_any (eq_by_cmp cmp x) r ≡ true
    one_equals e =
        let laws = eq_by_cmp_equiv o in
        let level = laws.symm x last ∙ ap is_eq e in
        list_any_congr laws x last r level ∙ list_any-from_Contains laws last r (n, omega arith, sym (at last))

module _ {K V : Type 0} {cmp : K → K → Ordering} (o : IsTotalOrder cmp) where
  -- a run without pairs
  pub run_none : (ks : List K) (vs : List V) → ks ≡ [] → vs ≡ [] → (length vs ≡ length ks) × IsStrictlySortedBy cmp ks
  unfolding IsStrictlySortedBy
  run_none ks vs no_keys no_values = ((λ j. length (no_values j)) ∙ sym (λ j. length (no_keys j)), subst (IsStrictlySortedBy cmp) (sym no_keys) tt)

  -- how the last key of a run compares with another
  pub run_last : (ks : List K) (vs : List V) (es : List (K × V)) (k last : K) (n : ℕ) (c : Ordering) → zip ks vs ≡ es → length vs ≡ length ks → IsStrictlySortedBy cmp ks → n + 1 ≡ length ks → ((d : K) → last ≡ get_or ks n d) → c ≡ cmp last k
      → keys_of es ≡ ks → MatchOrdering c (AllByRecursion (λ p. cmp p.0 k ≡ Less) es) (list_any (λ p. is_eq (cmp k p.0)) es ≡ true) (Unit {0})
  run_last ks vs es k last n Less e even s end at is keys = subst (AllByRecursion (λ p. cmp p.0 k ≡ Less)) e (all_beside (λ x. cmp x k ≡ Less) ks vs (below_all o ks k last n s end at (sym is)))
  run_last ks vs es k last n Equal e even s end at is keys = sym (any_of_keys (λ x. is_eq (cmp k x)) es) ∙ (ap (list_any (λ x. is_eq (cmp k x))) keys ∙ one_equals o ks k last n s end at (sym is))
  run_last ks vs es k last n Greater e even s end at is keys = tt

  module _ (ks ls : List K) (vs ws : List V) (es : List (K × V)) (k : K) (v : V) (e : zip ks vs ≡ es) (even : length vs ≡ length ks) (s : IsStrictlySortedBy cmp ks) (a : AllByRecursion (λ p. cmp p.0 k ≡ Less) es) (f : ls ≡ ks ++ k ∷ []) (g : ws ≡ vs ++ v ∷ []) where
    -- a run with one more pair is a run
    pub run_more : (length ws ≡ length ls) × IsStrictlySortedBy cmp ls
    run_more = (
      (λ j. length (g j)) ∙ (length-append vs (v ∷ []) ∙ (ap (λ m. m + 1) even ∙ (sym (length-append ks (k ∷ [])) ∙ (λ j. length (sym f j))))),
      subst (IsStrictlySortedBy cmp) (sym f) (strict_more o ks k s (all_aside (λ x. cmp x k ≡ Less) ks vs even (subst (AllByRecursion (λ p. cmp p.0 k ≡ Less)) (sym e) a))),
    )

    -- the pair is last
    pub run_pairs : zip ls ws ≡ es ++ (k, v) ∷ []
    run_pairs = (λ j. zip (f j) (g j)) ∙ (zip-push ks vs k v even ∙ ap (λ l. l ++ (k, v) ∷ []) e)

  -- the keys of the pairs before one are less than its key
  pub keys_below_next : (es : List (K × V)) (p : K × V) (fs all : List (K × V)) → es ++ p ∷ fs ≡ all → IsStrictlySortedBy cmp (keys_of all) → AllByRecursion (λ q. cmp q.0 p.0 ≡ Less) es
  keys_below_next es p fs all e s =
      all_of_keys (λ x. cmp x p.0 ≡ Less) es (below_next o (keys_of es) p.0 (keys_of fs) (subst (IsStrictlySortedBy cmp) (sym (ap keys_of e) ∙ keys_amidst es p fs) s))

  -- pairs in order that are inserted into a tree in turn
  pub put_next : (es : List (K × V)) (p : K × V) (fs all gs : List (K × V)) (new : Bool) → es ++ p ∷ fs ≡ all → IsStrictlySortedBy cmp (keys_of all) → IsPut (λ p q. cmp p.0 q.0) es p new gs → gs ≡ es ++ p ∷ []
  put_next es p fs all gs new e s = put_at_end (on_total (λ p. p.0) o) es gs p new (keys_below_next es p fs all e s)
