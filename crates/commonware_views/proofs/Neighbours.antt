-- Where the positions of items are in order, the same items are neighbours.
use Rattle.std.proofs.Common.{◌≡◌, ◌≢◌, ◌∙◌, ℕ, ◌+◌, ◌-◌, ◌<◌, ◌≤◌, List, [], length, get_or, false, inl, inr, ap, refl, sym, subst, subst₂, arith, true≢false}
use Rattle.std.specs.Cmp.{nat_cmp_is, on_total, then_total}
use Rattle.std.specs.List.{IsDistinct, range_with_len}
use Rattle.std.specs.Ordering.{eq_by_cmp, is_eq, is_lt, nat_cmp, ordering_reverse, ordering_then}
use Rattle.std.specs.declared.cmp.Ordering.{Ordering}
use Rattle.std.specs.declared.cmp.Ordering.TheVariants.{Less, Equal, Greater}
use Rattle.std.proofs.lemmas.Bool.{cases_lt}
use Rattle.std.proofs.lemmas.Cmp.{eq_by_cmp_equiv, nat_cmp_total, nat_list_cmp_total, tied_itself}
use Rattle.std.proofs.lemmas.List.{get_or_default}
use Rattle.std.proofs.lemmas.List.FromFn.{get_or-range_with_len, length-range_with_len}
use Rattle.std.proofs.lemmas.List.Sorted.{All-permutation, Contains-permutation, length_permutation, ranks_by, sorted_far}
use Rattle.std.proofs.lemmas.Map.Keys.{IsDistinct-IsPermutation, IsDistinct-from_sorted, apart_from_distinct}
use Rattle.std.proofs.lemmas.Map.Lookups.{exact_bytes}
use Rattle.commonware_ordered.specs.Strict.{IsStrict}
use Rattle.commonware_ordered.specs.laws.StrictLaws.{sorted_from_strict}
use Rattle.commonware_sequence.specs.FixedBytes.{bytes_cmp}
use Rattle.commonware_views.specs.Repeats.{AreInOrder, place_cmp}
use Rattle.commonware_views.proofs.Same.{HaveSame}

-- the positions below n differ
positions_differ : (n : ℕ) → IsDistinct (eq_by_cmp nat_cmp) (range_with_len 0 n)
positions_differ n =
    let range = range_with_len 0 n in
    let number = length-range_with_len 0 n in
    let rising : IsStrict nat_cmp range = λ k d h. sym (nat_cmp_is (get_or range k d) (get_or range (k + 1) d) Less
    (omega (arith, get_or-range_with_len 0 n k d (omega (arith, h, number)), get_or-range_with_len 0 n (k + 1) d (omega (arith, h, number))))) in
    IsDistinct-from_sorted nat_cmp range (sorted_from_strict nat_cmp_total range rising)

-- of the same bytes the second order decides
second_decides : (x y : List ℕ) (o : Ordering) → x ≡ y → ordering_then (bytes_cmp x y) o ≡ o
second_decides x y o e = ap (λ r. ordering_then r o) (ap (bytes_cmp x) (sym e) ∙ tied_itself nat_list_cmp_total x)

-- neither of two byte lists is less than the other, so they are the same
neither_less : (x y : List ℕ) (r o p : Ordering) → bytes_cmp x y ≡ r → is_lt (ordering_then r o) ≡ false
    → is_lt (ordering_then (bytes_cmp y x) p) ≡ false → x ≡ y
neither_less x y Less o p e h k = absurd (true≢false h)
neither_less x y Equal o p e h k = exact_bytes x y e
neither_less x y Greater o p e h k =
    let back : bytes_cmp y x ≡ Less = nat_list_cmp_total.antisymm y x ∙ ap ordering_reverse e in
    absurd (true≢false (sym (ap (λ r. is_lt (ordering_then r p)) back) ∙ k))

module _ (items : List (List ℕ)) (places : List ℕ) where
  -- the place at an index and the one before it have the same item
  abbrev pub AreSame : ℕ → Type 0
  AreSame k = get_or items (get_or places (k - 1) 0) [] ≡ get_or items (get_or places k 0) []

  -- of the first places, `end` of them, the one at `found` is the least that has the item of the one before it; it is 0
  -- where there are none
  pub record IsLeastSame (found end : ℕ) : Type 0 where
    pub below : found < end
    pub same : 0 < found → (found < length places) × AreSame found
    pub least : (k : ℕ) → 0 < k → k < end → k < length places → AreSame k
        → (0 < found) × (get_or places found 0 ≤ get_or places k 0)

  -- the next is passed over
  pub least_stays : (found i : ℕ) → IsLeastSame found i → (AreSame i → (0 < found) × (get_or places found 0 ≤ get_or places i 0))
      → IsLeastSame found (i + 1)
  least_stays found i h next =
      record {
        below = omega (arith, h.below);
        same = h.same;
        least = λ k some low inside same. elim (cases_lt k i) [
          | inl less ↦ h.least k some less inside same
          | inr most ↦ let here : k ≡ i = omega (arith, low, most) in
              subst (λ n. AreSame n → (0 < found) × (get_or places found 0 ≤ get_or places n 0)) (sym here) next same
        ];
      }

  -- the next is taken
  pub least_taken : (found i : ℕ) → IsLeastSame found i → i < length places → AreSame i
      → (0 < found → get_or places i 0 ≤ get_or places found 0) → IsLeastSame i (i + 1)
  least_taken found i h within here next =
      record {
        below = omega arith;
        same = λ _. (within, here);
        least = λ k some low inside same. elim (cases_lt k i) [
          | inl less ↦
              let old = h.least k some less inside same in
              (omega (arith, some, less), omega (arith, old.1, next old.0))
          | inr most ↦ let at : k ≡ i = omega (arith, low, most) in
              (omega (arith, some, at), omega (arith, ap (λ n. get_or places n 0) at))
        ];
      }

module _ (items : List (List ℕ)) (places : List ℕ) (order : AreInOrder items places) where
  -- there is a place for each position
  pub places_number : length places ≡ length items
  places_number =
      length_permutation (range_with_len 0 (length items)) places order.each ∙ length-range_with_len 0 (length items)

  -- each place is a position
  pub place_inside : (k : ℕ) → k < length places → get_or places k 0 < length items
  place_inside k =
      let range = range_with_len 0 (length items) in
      All-permutation (λ p. p < length items) range places order.each
      (λ j d h.
      let low : j < length items = omega (arith, h, length-range_with_len 0 (length items)) in
      omega (arith, low, get_or-range_with_len 0 (length items) j d low)) k 0

  -- each position has a place
  place_found : (p : ℕ) → p < length items → (k : ℕ) × (k < length places) × (get_or places k 0 ≡ p)
  place_found p h =
      let range = range_with_len 0 (length items) in
      let number = length-range_with_len 0 (length items) in
      let itself : get_or range p p ≡ p = omega (arith, get_or-range_with_len 0 (length items) p p h) in
      let (k, inside, at) = Contains-permutation range places p order.each (p, omega (arith, h, number), itself) in
      (k, inside, get_or_default places k 0 p inside ∙ at)

  -- no two places are the same
  places_differ : (i j : ℕ) → i < j → j < length places → get_or places i 0 ≢ get_or places j 0
  places_differ i j less inside e =
      let apart = apart_from_distinct (eq_by_cmp nat_cmp) places i j 0
      (IsDistinct-IsPermutation (eq_by_cmp nat_cmp) (eq_by_cmp_equiv nat_cmp_total).symm (range_with_len 0 (length items)) places order.each (positions_differ (length items)))
      less inside in
      let itself = ap is_eq (tied_itself nat_cmp_total (get_or places i 0)) in
      true≢false (sym itself ∙ ap (eq_by_cmp nat_cmp (get_or places i 0)) e ∙ apart)

  -- no place is less than one before it
  no_fall : (i j : ℕ) → i ≤ j → j < length places → is_lt (place_cmp items (get_or places j 0) (get_or places i 0)) ≡ false
  no_fall i j =
      sorted_far (λ x y. is_lt (place_cmp items x y))
      (ranks_by (then_total (on_total (λ p. get_or items p []) nat_list_cmp_total) nat_cmp_total) (λ p. p)) places order.sorted i j 0

  -- neighbours with the same item rise
  pub same_rise : (k : ℕ) → 0 < k → k < length places → AreSame items places k → get_or places (k - 1) 0 < get_or places k 0
  same_rise k some inside same =
      let p = get_or places (k - 1) 0 in
      let q = get_or places k 0 in
      let apart = places_differ (k - 1) k (omega (arith, some)) inside in
      let down : is_lt (nat_cmp q p) ≡ false = sym (ap is_lt (second_decides (get_or items q []) (get_or items p []) (nat_cmp q p) (sym same))) ∙ no_fall (k - 1) k (omega arith) inside in
      elim (cases_lt p q) [
        | inl less ↦ less
        | inr most ↦ elim (cases_lt q p) [
          | inl less ↦ absurd (true≢false (ap is_lt (nat_cmp_is q p Less less) ∙ down))
          | inr least ↦ absurd (apart (omega (arith, most, least)))
        ]
      ]

  -- of two positions of the same item the second is one of two neighbours with the same item
  pub neighbour_found : (i j : ℕ) → HaveSame items i j
      → (k : ℕ) × (0 < k) × (k < length places) × (get_or places k 0 ≡ j) × AreSame items places k
  neighbour_found i j h =
      let at = λ (p : ℕ). get_or items p [] in
      let (m, first_inside, first) = place_found i (omega (arith, h.earlier, h.inside)) in
      let (k, inside, second) = place_found j h.inside in
      let before : m < k = elim (cases_lt m k) [
        | inl less ↦ less
        | inr most ↦
            let fall = subst₂ (λ p q. is_lt (place_cmp items p q) ≡ false) first second (no_fall k m most first_inside) in
            let less = second_decides (at i) (at j) (nat_cmp i j) h.same ∙ sym (nat_cmp_is i j Less h.earlier) in
            absurd (true≢false (sym (ap is_lt less) ∙ fall))
      ] in
      let between = get_or places (k - 1) 0 in
      let some : 0 < k = omega (arith, before) in
      let low = subst (λ p. is_lt (place_cmp items between p) ≡ false) first (no_fall m (k - 1) (omega (arith, before)) (omega (arith, some, inside))) in
      let high = subst (λ p. is_lt (place_cmp items p between) ≡ false) second (no_fall (k - 1) k (omega arith) inside) in
      let high_too = subst (λ x. is_lt (ordering_then (bytes_cmp x (at between)) (nat_cmp j between)) ≡ false) (sym h.same) high in
      let same = neither_less (at between) (at i) (bytes_cmp (at between) (at i)) (nat_cmp between i) (nat_cmp j between) refl low high_too in
      (k, some, inside, second, same ∙ h.same ∙ ap at (sym second))
