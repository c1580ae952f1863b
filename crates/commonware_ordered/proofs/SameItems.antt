-- Strictly increasing lists are equal exactly where they hold the same items.
use Rattle.std.proofs.Common.{◌≡◌, Bool, true, false, ◌||◌, ◌&&◌, List, [], ◌∷◌, refl, sym, ◌∙◌, ap, subst}
use Rattle.std.specs.Prelude.{Option, Some, None}
use Rattle.std.specs.List.{AllByRecursion, find, list_any}
use Rattle.std.specs.List.Sorted.{IsStrictlySortedBy}
use Rattle.std.specs.Cmp.{IsEquivalence, IsTotalOrder, both_ways, eq_by_cmp_equiv, first_so, second_so}
use Rattle.std.specs.Cmp.Lexicographic.{pointwise}
use Rattle.std.specs.Ordering.{eq_by_cmp, is_eq, ordering_reverse}
use Rattle.std.specs.declared.cmp.Ordering.{Ordering}
use Rattle.std.specs.declared.cmp.Ordering.TheVariants.{Less, Equal, Greater}
use Rattle.std.proofs.lemmas.Cmp.{alike_right}
use Rattle.std.proofs.lemmas.List.Folds.{Any-from_list_any, list_any_at}
use Rattle.std.proofs.lemmas.Map.Keys.{sorted_head, sorted_tail}
use Rattle.std.proofs.lemmas.Map.Steps.{list_any_congr}
use Rattle.std.proofs.lemmas.Map.Views.{list_any-from_Contains}
use Rattle.std.proofs.lemmas.Option.{get_or_from_slice_get, slice_get_within}
use mathlib.Core.Bool.{true≢false}
use Rattle.commonware_ordered.specs.laws.StrictLaws.{sorted_from_strict}
use Rattle.commonware_ordered.specs.Dedup.{IsDedup, HaveSameItems, EqualsSameItems}
use Rattle.commonware_ordered.proofs.First.{find_congr, found_if_passes, found_passes, kept_from_find}

-- a list and its set hold the same items
same_items_from_IsDedup : {X : Type 0} {eq : X → X → Bool} {cmp : X → X → Ordering} → IsEquivalence eq → (l r : List X) → IsDedup eq cmp l r → HaveSameItems eq r l
same_items_from_IsDedup {X} {eq} laws l r d q = both_ways (list_any (eq q) r) (list_any (eq q) l) there back
  where
    there : list_any (eq q) r ≡ true → list_any (eq q) l ≡ true
    there h =
        let (k, z, within, at, level) = Any-from_list_any (eq q) r h in
        let (i, here, before) = (d.kept z).0 (k, within, at) in
        list_any_at (eq q) l i z (slice_get_within l i z here) (subst (λ y. eq q y ≡ true) (sym (get_or_from_slice_get l i z z here)) level)

    back : list_any (eq q) l ≡ true → list_any (eq q) r ≡ true
    back h = go (find (eq q) l) refl
      where
        go : (f : Option X) → find (eq q) l ≡ f → list_any (eq q) r ≡ true
        go None e = let (k, z, within, at, level) = Any-from_list_any (eq q) l h in absurd (found_if_passes (eq q) l z (k, within, at) level e)
        go (Some w) e =
            let level = found_passes (eq q) l w e in
            list_any_congr laws q w r level ∙ list_any-from_Contains laws w r ((d.kept w).1 (kept_from_find laws l w (sym (find_congr laws q w l level) ∙ e)))

module _ {X : Type 0} {cmp : X → X → Ordering} (o : IsTotalOrder cmp) where
  -- what is less than all items that x is less than is not among them
  absent : (q x : X) → ((y : X) → cmp x y ≡ Less → cmp q y ≡ Less) → (ys : List X) → AllByRecursion (λ y. cmp x y ≡ Less) ys → list_any (eq_by_cmp cmp q) ys ≡ false
  absent q x f [] a = refl
  absent q x f (y ∷ ys) a = λ i. is_eq (f y a.0 i) || absent q x f ys a.1 i

  -- what is less than the first item of a strictly increasing list is not in it
  absent_below : (q x : X) (xs : List X) → IsStrictlySortedBy cmp (x ∷ xs) → cmp q x ≡ Less → list_any (eq_by_cmp cmp q) (x ∷ xs) ≡ false
  absent_below q x xs s e = λ i. is_eq (e i) || absent q x (λ y. o.trans q x y e) xs (sorted_head cmp x xs s) i

  -- the first item of a list is in it
  itself : (x : X) (xs : List X) → list_any (eq_by_cmp cmp x) (x ∷ xs) ≡ true
  itself x xs = ap (λ b. b || list_any (eq_by_cmp cmp x) xs) ((eq_by_cmp_equiv o).refl x)

  -- strictly increasing lists of the same items have equal first items
  same_first : (x y : X) (xs ys : List X) → IsStrictlySortedBy cmp (x ∷ xs) → IsStrictlySortedBy cmp (y ∷ ys) → HaveSameItems (eq_by_cmp cmp) (x ∷ xs) (y ∷ ys) → cmp x y ≡ Equal
  same_first x y xs ys s t h = go (cmp x y) refl
    where
      go : (c : Ordering) → cmp x y ≡ c → c ≡ Equal
      go Less e = absurd (true≢false (sym (itself x xs) ∙ (h x ∙ absent_below x y ys t e)))
      go Equal e = refl
      go Greater e = absurd (true≢false (sym (itself y ys) ∙ (sym (h y) ∙ absent_below y x xs s (o.antisymm y x ∙ ap ordering_reverse e))))

  -- without their first items, strictly increasing lists of the same items hold the same items
  same_later : (x y : X) (xs ys : List X) → IsStrictlySortedBy cmp (x ∷ xs) → IsStrictlySortedBy cmp (y ∷ ys) → cmp x y ≡ Equal → HaveSameItems (eq_by_cmp cmp) (x ∷ xs) (y ∷ ys) → HaveSameItems (eq_by_cmp cmp) xs ys
  same_later x y xs ys s t level h q = go (cmp q x) refl
    where
      turned : cmp q x ≡ cmp q y
      turned = alike_right o x y q level

      neither : ((z : X) → cmp x z ≡ Less → cmp q z ≡ Less) → ((z : X) → cmp y z ≡ Less → cmp q z ≡ Less) → list_any (eq_by_cmp cmp q) xs ≡ list_any (eq_by_cmp cmp q) ys
      neither f g = absent q x f xs (sorted_head cmp x xs s) ∙ sym (absent q y g ys (sorted_head cmp y ys t))

      by_level : (x : X) → cmp q x ≡ Equal → (z : X) → cmp x z ≡ Less → cmp q z ≡ Less
      by_level x e z g = o.congr q x z e ∙ g

      go : (c : Ordering) → cmp q x ≡ c → list_any (eq_by_cmp cmp q) xs ≡ list_any (eq_by_cmp cmp q) ys
      go Less e = neither (λ z. o.trans q x z e) (λ z. o.trans q y z (sym turned ∙ e))
      go Equal e = neither (by_level x e) (by_level y (sym turned ∙ e))
      go Greater e = ap (λ c. is_eq c || list_any (eq_by_cmp cmp q) xs) (sym e) ∙ (h q ∙ ap (λ c. is_eq c || list_any (eq_by_cmp cmp q) ys) (sym turned ∙ e))

  -- strictly increasing lists of the same items are equal
  equal_from_same_items : (xs ys : List X) → IsStrictlySortedBy cmp xs → IsStrictlySortedBy cmp ys → HaveSameItems (eq_by_cmp cmp) xs ys → pointwise (eq_by_cmp cmp) xs ys ≡ true
  equal_from_same_items [] [] s t h = refl
  equal_from_same_items [] (y ∷ ys) s t h = absurd (true≢false (sym (itself y ys) ∙ sym (h y)))
  equal_from_same_items (x ∷ xs) [] s t h = absurd (true≢false (sym (itself x xs) ∙ h x))
  equal_from_same_items (x ∷ xs) (y ∷ ys) s t h =
      let level = same_first x y xs ys s t h in
      λ i. is_eq (level i) && equal_from_same_items xs ys (sorted_tail cmp x xs s) (sorted_tail cmp y ys t) (same_later x y xs ys s t level h) i

  -- equal lists hold the same items
  same_items_from_equal : (xs ys : List X) → pointwise (eq_by_cmp cmp) xs ys ≡ true → HaveSameItems (eq_by_cmp cmp) xs ys
  same_items_from_equal [] [] e q = refl
  same_items_from_equal [] (y ∷ ys) e q = absurd (true≢false (sym e))
  same_items_from_equal (x ∷ xs) [] e q = absurd (true≢false (sym e))
  same_items_from_equal (x ∷ xs) (y ∷ ys) e q =
      let laws = eq_by_cmp_equiv o in
      let first = first_so (eq_by_cmp cmp x y) (pointwise (eq_by_cmp cmp) xs ys) e in
      let here = laws.symm q x ∙ (laws.congr x y q first ∙ laws.symm y q) in
      λ i. here i || same_items_from_equal xs ys (second_so (eq_by_cmp cmp x y) (pointwise (eq_by_cmp cmp) xs ys) e) q i

  -- sets are equal exactly where their lists hold the same items
  pub EqualsSameItems_from_IsDedup : {eq : X → X → Bool} → ((x y : X) → eq x y ≡ is_eq (cmp x y)) → (l r : List X) → IsDedup eq cmp l r → EqualsSameItems eq cmp l r
  EqualsSameItems_from_IsDedup {eq} ties = subst (λ e. (l r : List X) → IsDedup e cmp l r → EqualsSameItems e cmp l r) (λ i x y. sym (ties x y) i) by_order
    where
      same : (l r : List X) → IsDedup (eq_by_cmp cmp) cmp l r → HaveSameItems (eq_by_cmp cmp) r l
      same = same_items_from_IsDedup (eq_by_cmp_equiv o)

      by_order : (l r : List X) → IsDedup (eq_by_cmp cmp) cmp l r → EqualsSameItems (eq_by_cmp cmp) cmp l r
      by_order l r d m s e = (
        λ h q. sym (same l r d q) ∙ (same_items_from_equal r s h q ∙ same m s e q),
        λ h. equal_from_same_items r s (sorted_from_strict o r d.strict) (sorted_from_strict o s e.strict) (λ q. same l r d q ∙ (h q ∙ sym (same m s e q))),
      )
