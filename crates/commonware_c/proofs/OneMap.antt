-- An input begins with the pairs of one map at most; and how many bytes its keys and its values take.
use Rattle.std.proofs.Common.{◌≡◌, ◌∙◌, ℕ, ◌*◌, List, [], ◌∷◌, length, ap, refl, subst, sym, arith, ◌≤◌, ◌<◌}
use Rattle.std.specs.Prelude.{nat_eq}
use Rattle.std.specs.Cmp.Lexicographic.{bytes_decides, pointwise, pointwise_decides, texts_ties}
use Rattle.std.specs.List.{AllByRecursion, flat_map}
use Rattle.std.specs.Map.{keys_of, values_of}
use Rattle.std.proofs.lemmas.Bool.{and_parts}
use Rattle.std.proofs.lemmas.Cmp.{nat_list_cmp_total}
use Rattle.std.proofs.lemmas.Map.Entries.{length-values_of}
use Rattle.commonware_base.specs.Lists.{IsWritableList, list_enc}
use Rattle.commonware_base.specs.Range.{Bounds}
use Rattle.commonware_base.specs.laws.ListLaws.{list_canonical, list_prefix_free}
use Rattle.commonware_base.specs.laws.SequenceLaws.{sequence_canonical}
use Rattle.commonware_map.specs.Maps.{columns, map_enc}
use Rattle.commonware_map.specs.laws.MapLaws.{map_prefix_free}
use Rattle.commonware_ordered.specs.Whole.{HasEqualItems}
use Rattle.commonware_ordered.specs.Sets.{IsWritableSet}
use Rattle.commonware_ordered.specs.laws.SetLaws.{set_canonical, set_prefix_free}
use Rattle.commonware_sequence.specs.FixedBytes.{IsOfSize, bytes_cmp, own_bytes}
use Rattle.commonware_sequence.specs.laws.FixedBytesLaws.{fixed_canonical, fixed_prefix_free}
use Rattle.commonware_views.specs.Maps.{IsSizedMapOf}
use Rattle.commonware_views.specs.Repeats.{IsFirstRepeat}
use Rattle.commonware_c.specs.Bimaps.{BeginsWithMap, IsSizedBiMapOf}
use Rattle.commonware_views.specs.laws.ItemLaws.{AreLong, items_length}

module _ (key_size value_size : ℕ) (range : Bounds ℕ) (s : List ℕ) where
  -- the bytes are those of each map that the input begins with
  pub one_encoding : (p q : List (List ℕ × List ℕ)) (r t : List ℕ) → IsSizedMapOf key_size value_size range s p r
      → IsSizedMapOf key_size value_size range s q t → map_enc own_bytes own_bytes p ≡ map_enc own_bytes own_bytes q
  one_encoding p q r t a b =
      map_prefix_free own_bytes (IsOfSize key_size) bytes_cmp (fixed_prefix_free key_size) own_bytes (IsOfSize value_size)
      (fixed_prefix_free value_size) p q r t a.writable b.writable (sym a.begins ∙ b.begins)

  -- so the keys and the values are
  pub one_pairs : (p q : List (List ℕ × List ℕ)) (r t : List ℕ) → IsSizedMapOf key_size value_size range s p r
      → IsSizedMapOf key_size value_size range s q t → (keys_of p ≡ keys_of q) × (values_of p ≡ values_of q)
  one_pairs p q r t a b =
      let Keys = IsWritableSet (IsOfSize key_size) bytes_cmp in
      let Values = IsWritableList (IsOfSize value_size) in
      let key_free = fixed_prefix_free key_size in
      let value_free = fixed_prefix_free value_size in
      let keys_free = set_prefix_free own_bytes (IsOfSize key_size) bytes_cmp key_free in
      let values_free = list_prefix_free own_bytes (IsOfSize value_size) value_free in
      let same = one_encoding p q r t a b in
      let laws = sequence_canonical (list_enc own_bytes) Keys keys_free (list_enc own_bytes) Values values_free
      (pointwise (pointwise nat_eq)) (pointwise (pointwise nat_eq))
      (set_canonical own_bytes (IsOfSize key_size) bytes_cmp key_free (pointwise nat_eq) nat_list_cmp_total texts_ties (fixed_canonical key_size))
      (list_canonical own_bytes (IsOfSize value_size) value_free (pointwise nat_eq) (fixed_canonical value_size)) in
      let equal = (laws.equal_by_bytes (columns p) (columns q) a.writable b.writable).1 same in
      let parts = and_parts _ _ equal in (
        (pointwise_decides bytes_decides (keys_of p) (keys_of q)).0 parts.0,
        (pointwise_decides bytes_decides (values_of p) (values_of q)).0 parts.1,
      )

  -- so the values are
  pub one_map : (p q : List (List ℕ × List ℕ)) (r t : List ℕ) → IsSizedMapOf key_size value_size range s p r
      → IsSizedMapOf key_size value_size range s q t → values_of p ≡ values_of q
  one_map p q r t a b = (one_pairs p q r t a b).1

  -- so it has as many pairs
  pub one_number : (p q : List (List ℕ × List ℕ)) (r t : List ℕ) → IsSizedMapOf key_size value_size range s p r
      → IsSizedMapOf key_size value_size range s q t → length p ≡ length q
  one_number p q r t a b =
      sym (length-values_of p) ∙ ap length (one_map p q r t a b) ∙ length-values_of q

  module _ (pairs : List (List ℕ × List ℕ)) (rest : List ℕ) (read : IsSizedMapOf key_size value_size range s pairs rest)
      (places : ℕ) where
    -- a room for its pairs is none that is too short for those of a map
    pub not_short : length pairs ≤ places → ¬ BeginsWithMap key_size value_size range s (λ found. places < length found)
    not_short enough (p, r, found, short) = omega (arith, enough, short, one_number pairs p rest r read found)

    -- a map with a repeated value is no bimap
    pub not_distinct : (first second : ℕ) → IsFirstRepeat (values_of pairs) first second → (p : List (List ℕ × List ℕ)) (r : List ℕ)
        → ¬ IsSizedBiMapOf key_size value_size range s p r
    not_distinct first second repeat p r found =
        let (item, one, two) = repeat.same in
        let equal = (bytes_decides item item).1 refl in
        found.distinct
        (subst (HasEqualItems (pointwise nat_eq)) (one_map pairs p rest r read found.map)
        (first, second, item, item, repeat.earlier, one, two, equal))

-- items of a size have that length
pub items_are_long : (size : ℕ) (items : List (List ℕ)) → AllByRecursion (IsOfSize size) items → AreLong size items
items_are_long size [] each = tt
items_are_long size (x ∷ items) (here, each) = (here.count, items_are_long size items each)

-- so their bytes are as many as the items, times the size
pub items_bytes : (size : ℕ) (items : List (List ℕ)) → AllByRecursion (IsOfSize size) items
    → length (flat_map own_bytes items) ≡ length items * size
items_bytes size items each = items_length size items (items_are_long size items each)
