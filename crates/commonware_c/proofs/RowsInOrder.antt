-- Rows that are strictly increasing by their keys are the pairs of their map.
use Rattle.std.proofs.Common.{◌≡◌, ◌∙◌, ◌+◌, ◌≤◌, ◌++◌, ℕ, List, [], ◌∷◌, length, map, take, drop, nat_eq, arith, ap, ap₂, refl, subst₂}
use Rattle.std.specs.List.{AllByRecursion, flat_map}
use Rattle.std.specs.Map.{keys_of, values_of}
use Rattle.std.specs.Cmp.Lexicographic.{pointwise}
use Rattle.std.specs.declared.cmp.Ordering.TheVariants.{Less}
use Rattle.std.proofs.lemmas.Cmp.{nat_list_cmp_total, on_total}
use Rattle.std.proofs.lemmas.List.{length-drop, take_all}
use Rattle.std.proofs.lemmas.List.Sorted.{IsPermutation-refl}
use Rattle.std.proofs.lemmas.Map.Keys.{Less-from_sorted}
use Rattle.std.proofs.lemmas.Option.{get_or_from_slice_get, slice_get_within}
use Rattle.commonware_map.specs.Pairs.{on_keys}
use Rattle.commonware_ordered.specs.laws.StrictLaws.{sorted_from_strict}
use Rattle.commonware_sequence.specs.FixedBytes.{bytes_cmp, own_bytes}
use Rattle.commonware_views.proofs.NoGap.{not_below_itself}
use Rattle.commonware_views.specs.laws.ItemLaws.{AreLong}
use Rattle.commonware_c.specs.Pairs.{AreAllPairs, AreInKeyOrder, IsFirstOfEach, RepeatsKey, pair_of}
use Rattle.commonware_c.proofs.Repeats.{each_first}
use Rattle.commonware_c.proofs.Values.{strict_values}

-- the keys of the rows are their first bytes
pub keys_flat : (ks : ℕ) (rows : List (List ℕ)) → flat_map (λ row. take ks (drop 0 row)) rows ≡ flat_map own_bytes (keys_of (map (pair_of ks) rows))
keys_flat ks [] = refl
keys_flat ks (row ∷ rows) = ap (λ t. take ks row ++ t) (keys_flat ks rows)

-- and the values those after them
pub values_flat : (ks vs : ℕ) (rows : List (List ℕ)) → AreLong (ks + vs) rows
    → flat_map (λ row. take vs (drop ks row)) rows ≡ flat_map own_bytes (values_of (map (pair_of ks) rows))
values_flat ks vs [] long = refl
values_flat ks vs (row ∷ rows) long =
    ap₂ (λ x t. x ++ t) (take_all vs (drop ks row) (omega (arith, length-drop ks row, long.0))) (values_flat ks vs rows long.1)

-- which the rows have
pub have_parts : (n size : ℕ) (rows : List (List ℕ)) → n ≤ size → AreLong size rows → AllByRecursion (λ row. n ≤ length row) rows
have_parts n size [] h long = tt
have_parts n size (row ∷ rows) h long = (omega (arith, h, long.0), have_parts n size rows h long.1)

module _ (ks : ℕ) (rows : List (List ℕ)) (strict : AreInKeyOrder ks rows) where
  -- no key repeats
  no_repeat : (i : ℕ) → ¬ RepeatsKey ks rows i
  no_repeat i (row, here, earlier, other, less, there, same) =
      let by_key = λ (x y : List ℕ). bytes_cmp (take ks x) (take ks y) in
      let below = Less-from_sorted by_key rows earlier i row (sorted_from_strict (on_total (take ks) nat_list_cmp_total) rows strict) less (slice_get_within rows i row here) in
      not_below_itself (take ks row)
      (subst₂ (λ x y. bytes_cmp x y ≡ Less) (ap (take ks) (get_or_from_slice_get rows earlier other row there) ∙ same) (ap (take ks) (get_or_from_slice_get rows i row row here)) below)

  -- so they are all pairs
  pub all_in_order : AreAllPairs ks rows (map (pair_of ks) rows)
  all_in_order = record {
    distinct = no_repeat;
    all = IsPermutation-refl (map (pair_of ks) rows);
    strict = strict_values (pair_of ks) (on_keys (pointwise nat_eq)) (on_keys bytes_cmp) rows strict;
  }

  -- and each is the first with its key
  pub own_map : IsFirstOfEach ks rows (map (pair_of ks) rows)
  own_map = each_first ks rows (map (pair_of ks) rows) all_in_order
