-- Rows that have the key of an earlier one, and the pairs of rows of which none has.
use Rattle.std.proofs.Common.{◌≡◌, ◌∙◌, ◌+◌, ◌<◌, ◌≤◌, ℕ, zero, suc, Bor, Bool, true, false, List, [], ◌∷◌, ◌++◌, ◌||◌, length, map, nat_eq, take, get_or, arith, ap, refl, sym, subst, inl, inr}
use Rattle.std.specs.Prelude.{None, Some, slice_get}
use Rattle.std.specs.Cmp.Lexicographic.{pointwise, same_text, texts_ties}
use Rattle.std.specs.List.{Contains, list_any}
use Rattle.std.specs.List.Sorted.{IsPermutation}
use Rattle.std.specs.Ordering.{eq_by_cmp}
use Rattle.std.proofs.lemmas.Bool.{cases_order, false_from_ne_true}
use Rattle.std.proofs.lemmas.Cmp.{nat_list_cmp_total, nat_list_eq_equiv, on_total}
use Rattle.std.proofs.lemmas.List.{get_or-map, get_or-take, get_or_default, length-map, length-take, map-append, take_all, take_more}
use Rattle.std.proofs.lemmas.List.Sorted.{Contains-permutation, IsPermutation-append_left, IsPermutation-map, IsPermutation-refl, IsPermutation-sym, IsPermutation-trans, length_permutation}
use Rattle.std.proofs.lemmas.Simd.{map-map}
use Rattle.std.proofs.lemmas.Map.Views.{Contains-from_any, list_any-from_Contains}
use Rattle.std.proofs.lemmas.Option.{get_or_from_slice_get, same_Some, slice_get-get_or, slice_get_cases, slice_get_read, slice_get_within}
use mathlib.Core.Bool.{true≢false}
use Rattle.commonware_map.specs.Pairs.{on_keys}
use Rattle.commonware_ordered.proofs.Put.{all_put}
use Rattle.commonware_ordered.specs.Put.{IsPut}
use Rattle.commonware_ordered.specs.Strict.{IsStrict}
use Rattle.commonware_sequence.specs.FixedBytes.{bytes_cmp}
use Rattle.commonware_c.specs.Pairs.{AreAllPairs, IsFirstOfEach, IsMapOf, IsMapOfAll, RepeatsKey, pair_of, referred}
use Rattle.commonware_c.proofs.Values.{strict_values}

-- a pair of references, what they refer to, and its key
abbrev pub Referred : Type 0
Referred = Bor (List ℕ) × Bor (List ℕ)

abbrev pub value_of : Referred → List ℕ × List ℕ
value_of p = (p.0.now, p.1.now)

abbrev pub key_of : Referred → List ℕ
key_of p = p.0.now

module _ (ks : ℕ) (rows : List (List ℕ)) (i : ℕ) (row : List ℕ) (here : slice_get rows i ≡ Some row) where
  -- a row with the key of an earlier one has a key of the rows before it
  key_before : RepeatsKey ks rows i → Contains (map (take ks) (take i rows)) (take ks row)
  key_before (again, at, earlier, other, less, there, same) =
      let within : earlier < length (take i rows) = omega (arith, less, slice_get_within rows earlier other there, length-take i rows) in (
        earlier,
        omega (arith, within, length-map (take i rows) (take ks)),
        get_or-map (take ks) (take i rows) earlier other (take ks row) within
            ∙ ap (take ks) (get_or-take i rows earlier other less ∙ get_or_from_slice_get rows earlier other other there) ∙ same
            ∙ ap (take ks) (same_Some again row (sym at ∙ here)),
      )

  -- and the other way round
  repeats_key : Contains (map (take ks) (take i rows)) (take ks row) → RepeatsKey ks rows i
  repeats_key (k, within, is) =
      let inside : k < length (take i rows) = omega (arith, within, length-map (take i rows) (take ks)) in
      let less : k < i = omega (arith, inside, length-take i rows) in (
        row,
        here,
        k,
        get_or rows k row,
        less,
        slice_get-get_or rows k row (omega (arith, inside, length-take i rows)),
        ap (take ks) (sym (get_or-take i rows k row less)) ∙ sym (get_or-map (take ks) (take i rows) k row (take ks row) inside) ∙ is,
      )

-- a test of the keys of pairs
any_by_keys : (test : List ℕ → Bool) (es : List Referred) → list_any (λ p. test (key_of p)) es ≡ list_any test (map key_of es)
any_by_keys test [] = refl
any_by_keys test (e ∷ es) = ap (λ b. test (key_of e) || b) (any_by_keys test es)

-- whether a pair has the key of one of the others
has_key : (p : Referred) (es : List Referred) → list_any (eq_by_cmp (on_keys (λ x y. bytes_cmp x.now y.now)) p) es ≡ list_any (pointwise nat_eq (key_of p)) (map key_of es)
has_key p es = any_by_keys (λ k. eq_by_cmp bytes_cmp (key_of p) k) es ∙ ap (λ test. list_any test (map key_of es)) (λ j k. sym (texts_ties (key_of p) k) j)

-- es are the pairs of the first i rows, and none of these has the key of an earlier one
pub record AreFirst (ks : ℕ) (rows : List (List ℕ)) (i : ℕ) (es : List Referred) : Type 0 where
  pub all : IsPermutation (map (pair_of ks) (take i rows)) (referred es)
  pub distinct : (j : ℕ) → j < i → ¬ RepeatsKey ks rows j

module _ (ks : ℕ) (rows : List (List ℕ)) (i : ℕ) (row : List ℕ) (es fs : List Referred) (p : Referred) (here : slice_get rows i ≡ Some row) (is : value_of p ≡ pair_of ks row) (first : AreFirst ks rows i es) where
  same_keys : IsPermutation (map (take ks) (take i rows)) (map key_of es)
  same_keys =
      subst (λ l. IsPermutation (map (take ks) (take i rows)) l) (map-map (λ q. q.0) value_of es)
      (subst (λ l. IsPermutation l (map (λ q. q.0) (referred es))) (map-map (λ q. q.0) (pair_of ks) (take i rows)) (IsPermutation-map (λ q. q.0) _ _ first.all))

  -- a pair that isn't new has the key of an earlier row
  pub put_known : (new : Bool) → new ≡ false → IsPut (on_keys (λ x y. bytes_cmp x.now y.now)) es p new fs → RepeatsKey ks rows i
  put_known true e put = cc
  put_known false e put =
      repeats_key ks rows i row here
      (subst (Contains (map (take ks) (take i rows))) (ap (λ q. q.0) is)
      (Contains-permutation (map key_of es) (map (take ks) (take i rows)) (key_of p) (IsPermutation-sym _ _ same_keys)
      (Contains-from_any (λ x y e. same_text x y (sym e)) (key_of p) (map key_of es) (sym (has_key p es) ∙ put.0))))

  -- so a new one has another key than they
  new_key : IsPut (on_keys (λ x y. bytes_cmp x.now y.now)) es p true fs → ¬ RepeatsKey ks rows i
  new_key put again =
      let has = Contains-permutation (map (take ks) (take i rows)) (map key_of es) (take ks row) same_keys (key_before ks rows i row here again) in
      true≢false (sym (list_any-from_Contains nat_list_eq_equiv (key_of p) (map key_of es) (subst (Contains (map key_of es)) (sym (ap (λ q. q.0) is)) has)) ∙ (sym (has_key p es) ∙ put.0))

  -- and is one of the first rows with them
  pub put_new : (new : Bool) → new ≡ true → IsPut (on_keys (λ x y. bytes_cmp x.now y.now)) es p new fs → AreFirst ks rows (i + 1) fs
  put_new false e put = cc
  put_new true e put = record {
    all = subst (λ l. IsPermutation l (referred fs)) (sym front)
        (IsPermutation-trans _ _ _ (IsPermutation-append_left (pair_of ks row ∷ []) _ _ first.all)
        (subst (λ l. IsPermutation l (referred fs)) (map-append value_of es (p ∷ []) ∙ ap (λ q. referred es ++ q ∷ []) is)
        (IsPermutation-map value_of _ _ (all_put (on_total key_of nat_list_cmp_total) es es fs p true refl (IsPermutation-refl es) put))));
    distinct = λ j less. elim (cases_order j i) [
      | inl last ↦ subst (λ k. ¬ RepeatsKey ks rows k) (sym last) (new_key put)
      | inr (inl before) ↦ first.distinct j before
      | inr (inr after) ↦ absurd (omega (arith, less, after))
    ];
  }
    where
      front : map (pair_of ks) (take (i + 1) rows) ≡ map (pair_of ks) (take i rows) ++ pair_of ks row ∷ []
      front =
          ap (map (pair_of ks)) (take_more rows i row (slice_get_within rows i row here) ∙ ap (λ r. take i rows ++ r ∷ []) (get_or_from_slice_get rows i row row here))
          ∙ map-append (pair_of ks) (take i rows) (row ∷ [])

-- where no row is at a place, that is past the last
pub past_last : (rows : List (List ℕ)) (i : ℕ) → None ≡ slice_get rows i → length rows ≤ i
past_last rows i none = elim (slice_get_cases rows i).1 [
  | inl (row, _, here, _) ↦ absurd (cc)
  | inr (past, _) ↦ past
]

-- once all rows are among them
pub all_pairs : (ks i : ℕ) (rows : List (List ℕ)) (es pairs : List Referred) → length rows ≤ i → AreFirst ks rows i es → pairs ≡ es
    → IsStrict (on_keys (λ x y. bytes_cmp x.now y.now)) pairs → AreAllPairs ks rows (referred pairs)
all_pairs ks i rows es pairs past first same strict = record {
  distinct = λ j again. first.distinct j (omega (arith, slice_get_within rows j again.0 again.1, past)) again;
  all = subst (λ l. IsPermutation (map (pair_of ks) rows) (referred l)) (sym same) (subst (λ l. IsPermutation (map (pair_of ks) l) (referred es)) (take_all i rows past) first.all);
  strict = strict_values value_of (on_keys (pointwise nat_eq)) (on_keys bytes_cmp) pairs strict;
}

module _ (ks : ℕ) (rows : List (List ℕ)) (pairs : List (List ℕ × List ℕ)) (are : AreAllPairs ks rows pairs) where
  -- as many as rows
  pub as_many : length pairs ≡ length rows
  as_many = length_permutation _ pairs are.all ∙ length-map rows (pair_of ks)

  -- a row has another key than those before it
  other_key : (j i : ℕ) → j < i → i < length rows → (p q : List ℕ × List ℕ) → p ≡ get_or (map (pair_of ks) rows) j p → q ≡ get_or (map (pair_of ks) rows) i q → pointwise nat_eq p.0 q.0 ≡ false
  other_key j i less within p q first second =
      let before : j < length rows = omega (arith, less, within) in
      false_from_ne_true _ (λ e. are.distinct i (
        get_or rows i [],
        slice_get-get_or rows i [] within,
        j,
        get_or rows j [],
        less,
        slice_get-get_or rows j [] before,
        ap (λ r. r.0) (sym (first ∙ get_or-map (pair_of ks) rows j [] p before)) ∙ same_text p.0 q.0 (sym e) ∙ ap (λ r. r.0) (second ∙ get_or-map (pair_of ks) rows i [] q within),
      ))

  -- so each pair is the first with its key
  pub each_first : IsFirstOfEach ks rows pairs
  each_first =
      let l = map (pair_of ks) rows in record {
        strict = are.strict;
        kept = λ x. (
          (λ has.
              let at = Contains-permutation pairs l x (IsPermutation-sym _ _ are.all) has in (
                at.0,
                slice_get_read l (length l) at.0 x refl at.1 (sym at.2),
                λ j d low high. other_key j at.0 high (omega (arith, at.1, length-map rows (pair_of ks))) (get_or l j d) x (get_or_default l j d (get_or l j d) (omega (arith, high, at.1))) (sym at.2),
              )),
          (λ kept. Contains-permutation l pairs x are.all (kept.0, slice_get_within l kept.0 x kept.1, get_or_from_slice_get l kept.0 x x kept.1)),
        );
      }

  -- and the map of the first pairs is that of all
  pub map_of_all : (vs count bytes : ℕ) → IsMapOf ks vs rows pairs count bytes → IsMapOfAll ks vs rows pairs count bytes
  map_of_all vs count bytes is = record {
    are_all = are;
    count_is = is.count_is ∙ as_many;
    count_short = is.count_short;
    bytes_is = is.bytes_is;
    bytes_most = is.bytes_most;
  }

-- and the other way round
pub map_of_firsts : (ks vs : ℕ) (rows : List (List ℕ)) (pairs : List (List ℕ × List ℕ)) (count bytes : ℕ)
    → IsMapOfAll ks vs rows pairs count bytes → IsMapOf ks vs rows pairs count bytes
map_of_firsts ks vs rows pairs count bytes is = record {
  firsts = each_first ks rows pairs is.are_all;
  count_is = is.count_is ∙ sym (as_many ks rows pairs is.are_all);
  count_most = omega (arith, is.count_is);
  count_short = is.count_short;
  bytes_is = is.bytes_is;
  bytes_most = is.bytes_most;
}

-- pairs of rows are there only where rows are
pub some_rows : (ks : ℕ) (rows : List (List ℕ)) (i : ℕ) (es : List Referred) → AreFirst ks rows i es → 1 ≤ length es → 1 ≤ length rows
some_rows ks [] zero es first some =
    absurd (omega (arith, some, length_permutation [] (referred es) first.all, length-map es value_of))
some_rows ks [] (suc i) es first some =
    absurd (omega (arith, some, length_permutation [] (referred es) first.all, length-map es value_of))
some_rows ks (row ∷ rows) i es first some = omega arith
