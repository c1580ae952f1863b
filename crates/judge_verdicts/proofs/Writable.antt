-- A set of writable items is writable.
use Rattle.std.proofs.Common.{◌≡◌, ◌≤◌, ◌+◌, Bool, true, List, [], ◌∷◌, length, sym, subst, arith, ◌∙◌}
use Rattle.std.specs.Cmp.{IsTotalOrder, eq_by_cmp_equiv}
use Rattle.std.specs.List.{AllByRecursion, Contains, zip}
use Rattle.std.specs.Map.{keys_of, values_of}
use Rattle.std.specs.Ordering.{eq_by_cmp}
use Rattle.std.specs.declared.cmp.Ordering.{Ordering}
use Rattle.std.proofs.lemmas.List.Elements.{All-contains, All-from_recursion, Contains-append_right, recursion_from_All}
use Rattle.std.proofs.lemmas.List.Folds.{Any-from_list_any, list_any_at}
use Rattle.std.proofs.lemmas.List.Sorted.{All-permutation, length_permutation}
use Rattle.std.proofs.lemmas.List.{get_or-map}
use Rattle.std.proofs.lemmas.Map.Entries.{length-keys_of, length-values_of}
use Rattle.std.proofs.lemmas.Slice.Zip.{length-zip}
use Rattle.std.proofs.lemmas.Map.Keys.{IsDistinct-from_sorted}
use Rattle.std.proofs.lemmas.Map.Made.{length-le_from_is_member}
use Rattle.std.proofs.lemmas.Option.{get_or_from_slice_get, slice_get_within}
use Rattle.commonware_ordered.proofs.First.{contains_head}
use Rattle.commonware_ordered.specs.laws.StrictLaws.{sorted_from_strict}
use Rattle.commonware_utils.specs.Codec.{IsWritableList}
use Rattle.commonware_utils.specs.Ordered.{IsDedup, IsSetOfAll, IsStrict, IsWritableMap, IsWritableSet, on_keys}

-- what holds of each item of a list holds of items that are among them
each_among : {X : Type 0} (W : X → Type 0) (l r : List X) → AllByRecursion W l → ((x : X) → Contains r x → Contains l x) → AllByRecursion W r
each_among W l [] all among = tt
each_among W l (x ∷ r) all among =
    (All-contains W l x (All-from_recursion W l all) (among x (contains_head x r)), each_among W l r all (λ y h. among y (Contains-append_right (x ∷ []) r y h)))

module _ {X : Type 0} {cmp : X → X → Ordering} (o : IsTotalOrder cmp) (W : X → Type 0) (eq : X → X → Bool) (l r : List X) (w : IsWritableList W l) where
  -- a strict list of items that are among those of another
  pub among_writable : IsStrict cmp r → ((x : X) → Contains r x → Contains l x) → IsWritableSet W cmp r
  among_writable strict among = record { list = record { short = omega (arith, fewer, w.short); each = each_among W l r w.each among }; strict = strict }
    where
      fewer : length r ≤ length l
      fewer =
          length-le_from_is_member (eq_by_cmp_equiv o) r l (IsDistinct-from_sorted cmp r (sorted_from_strict o r strict)) (λ q h.
          let (k, z, within, at, level) = Any-from_list_any (eq_by_cmp cmp q) r h in
          let (i, inside, here) = among z (k, within, at) in
          list_any_at (eq_by_cmp cmp q) l i z inside (subst (λ y. eq_by_cmp cmp q y ≡ true) (sym here) level))

  -- a set where of equal items the first stays
  pub dedup_writable : IsDedup eq cmp l r → IsWritableSet W cmp r
  dedup_writable d = among_writable d.strict (λ x h. let (i, here, before) = (d.kept x).0 h in (i, slice_get_within l i x here, get_or_from_slice_get l i x x here))

  -- a set where all stay
  pub all_writable : IsSetOfAll eq cmp l r → IsWritableSet W cmp r
  all_writable (strict, moved, apart) = record {
    list = record {
      short = omega (arith, w.short, length_permutation l r moved);
      each = recursion_from_All W r (All-permutation W l r moved (All-from_recursion W l w.each));
    };
    strict = strict;
  }

-- pairs of writable keys and values
abbrev pub IsWritablePair : {K V : Type 0} → (K → Type 0) → (V → Type 0) → K × V → Type 0
IsWritablePair KW VW p = KW p.0 × VW p.1

module _ {K V : Type 0} (KW : K → Type 0) (VW : V → Type 0) where
  -- each of lists side by side
  each_beside : (ks : List K) (vs : List V) → AllByRecursion KW ks → AllByRecursion VW vs → AllByRecursion (IsWritablePair KW VW) (zip ks vs)
  each_beside [] vs k v = tt
  each_beside (x ∷ ks) [] k v = tt
  each_beside (x ∷ ks) (y ∷ vs) k v = ((k.0, v.0), each_beside ks vs k.1 v.1)

  -- two lists side by side
  pub beside_writable : (ks : List K) (vs : List V) → IsWritableList KW ks → IsWritableList VW vs → IsWritableList (IsWritablePair KW VW) (zip ks vs)
  beside_writable ks vs k v = record { short = omega (arith, k.short, length-zip ks vs); each = each_beside ks vs k.each v.each }

  -- the keys, and the values
  each_key : (ps : List (K × V)) → AllByRecursion (IsWritablePair KW VW) ps → AllByRecursion KW (keys_of ps)
  each_key [] h = tt
  each_key (p ∷ ps) h = (h.0.0, each_key ps h.1)

  each_value : (ps : List (K × V)) → AllByRecursion (IsWritablePair KW VW) ps → AllByRecursion VW (values_of ps)
  each_value [] h = tt
  each_value (p ∷ ps) h = (h.0.1, each_value ps h.1)

  -- keys of pairs that are strict by them
  strict_keys : (cmp : K → K → Ordering) (ps : List (K × V)) → IsStrict (on_keys cmp) ps → IsStrict cmp (keys_of ps)
  strict_keys cmp [] s k d high = absurd (omega arith)
  strict_keys cmp (p ∷ ps) s k d high =
      let q : K × V = (d, p.1) in
      let many = length-keys_of (p ∷ ps) in
      let first = get_or-map (λ (r : K × V). r.0) (p ∷ ps) k q d (omega (arith, high, many)) in
      let second = get_or-map (λ (r : K × V). r.0) (p ∷ ps) (k + 1) q d (omega (arith, high, many)) in
      (λ j. cmp (first j) (second j)) ∙ s k q (omega (arith, high, many))

  -- a map of writable pairs
  pub map_writable : (cmp : K → K → Ordering) (ps : List (K × V)) → IsWritableSet (IsWritablePair KW VW) (on_keys cmp) ps → IsWritableMap KW cmp VW ps
  map_writable cmp ps w = (
    record { list = record { short = omega (arith, w.list.short, length-keys_of ps); each = each_key ps w.list.each }; strict = strict_keys cmp ps w.strict },
    record { short = omega (arith, w.list.short, length-values_of ps); each = each_value ps w.list.each },
  )
