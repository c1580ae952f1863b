-- A bimap keeps the laws that its keys and values keep.
use Rattle.std.specs.Prelude.{◌≡◌, ℕ, List, Bool, true}
use Rattle.std.specs.Map.{keys_of, values_of}
use Rattle.std.proofs.Common.{inl, inr, sym, ◌∙◌, refl}
use Rattle.std.proofs.lemmas.Bool.{and_parts}
use Rattle.std.specs.Cmp.{IsEquivalence, IsTotalOrder}
use Rattle.std.specs.Cmp.Lexicographic.{pointwise}
use Rattle.std.specs.Ordering.{is_eq}
use Rattle.std.specs.declared.cmp.Ordering.{Ordering}
use Rattle.commonware_base.specs.Range.{Bounds}
use Rattle.commonware_base.specs.Fault.{Fault}
use Rattle.commonware_base.specs.Text.{IsPrefixFree, ReadLaws, CanonicalLaws}
use Rattle.commonware_base.specs.laws.ConditionLaws.{Condition, broken_no_fault, condition_laws}
use Rattle.commonware_ordered.specs.laws.EqualItemLaws.{equal_items_back, equal_items_or_none, equal_items_same}
use Rattle.commonware_map.specs.laws.MapLaws.{map_canonical, map_laws, map_prefix_free}
use Rattle.commonware_map.specs.Maps.{map_enc, IsAllowedMap, IsWritableMap, MapFault}
use Rattle.commonware_map.specs.Pairs.{are_equal_pairs}
use Rattle.commonware_map.specs.laws.PairLaws.{equal_by_parts}
use Rattle.commonware_ordered.specs.Whole.{HasEqualItems}
use Rattle.commonware_bimap.specs.BiMaps.{IsWritableBiMap, BeginsRepeated, repeated_fault, BiMapFault, bad_map}
use Rattle.commonware_bimap.specs.BiMaps.{bad_values, bimap_case}

module _ {K V : Type 0} (key_eq : K → K → Bool) (value_eq : V → V → Bool) (value_equiv : IsEquivalence value_eq) where
  -- of two equal maps both have equal values, or neither
  pub repeated_together : (m n : List (K × V)) → are_equal_pairs key_eq value_eq m n ≡ true
      → HasEqualItems value_eq (values_of m) → HasEqualItems value_eq (values_of n)
  repeated_together m n e =
      let parts =
      and_parts (pointwise key_eq (keys_of m) (keys_of n)) (pointwise value_eq (values_of m) (values_of n))
      (sym (equal_by_parts key_eq value_eq m n) ∙ e) in
      equal_items_same value_eq value_equiv (values_of m) (values_of n) parts.1

  -- and the other way round
  pub repeated_back : (m n : List (K × V)) → are_equal_pairs key_eq value_eq m n ≡ true
      → HasEqualItems value_eq (values_of n) → HasEqualItems value_eq (values_of m)
  repeated_back m n e =
      let parts =
      and_parts (pointwise key_eq (keys_of m) (keys_of n)) (pointwise value_eq (values_of m) (values_of n))
      (sym (equal_by_parts key_eq value_eq m n) ∙ e) in
      equal_items_back value_eq value_equiv (values_of m) (values_of n) parts.1

module _ {K V : Type 0} (ek : K → List ℕ) (WK : K → Type 0) (cmp : K → K → Ordering)
    (key_prefix_free : IsPrefixFree ek WK) (ev : V → List ℕ) (WV : V → Type 0)
    (value_prefix_free : IsPrefixFree ev WV) where
  -- no encoding of a bimap is a proper prefix of another's
  pub bimap_prefix_free : (value_eq : V → V → Bool) → IsPrefixFree (map_enc ek ev) (IsWritableBiMap WK cmp WV value_eq)
  bimap_prefix_free value_eq m n x y v w e =
      map_prefix_free ek WK cmp key_prefix_free ev WV value_prefix_free m n x y v.map w.map e

  module _ (key_eq : K → K → Bool) (total : IsTotalOrder cmp) (matches_eq : (x y : K) → key_eq x y ≡ is_eq (cmp x y))
      (key_canonical : CanonicalLaws ek WK key_eq)
      (value_eq : V → V → Bool) (value_equiv : IsEquivalence value_eq)
      (value_canonical : CanonicalLaws ev WV value_eq) where
    -- the law of the same pairs as maps
    as_maps : CanonicalLaws (map_enc ek ev) (IsWritableMap WK cmp WV) (are_equal_pairs key_eq value_eq)
    as_maps =
        map_canonical ek WK cmp key_prefix_free ev WV value_prefix_free key_eq total matches_eq key_canonical value_eq
        value_canonical

    -- bimaps are equal exactly where their encodings are
    pub bimap_canonical :
        CanonicalLaws (map_enc ek ev) (IsWritableBiMap WK cmp WV value_eq) (are_equal_pairs key_eq value_eq)
    bimap_canonical = record {
      equal_by_bytes = λ m n v w. as_maps.equal_by_bytes m n v.map w.map;
      writable_together =
          λ m n e v. record {
            map = as_maps.writable_together m n e v.map;
            distinct = λ twice. v.distinct (repeated_back key_eq value_eq value_equiv m n e twice);
          };
    }

    module _ (range : Bounds ℕ) (AK : K → Type 0) (fk : List ℕ → Fault → Type 0) (AV : V → Type 0)
        (fv : List ℕ → Fault → Type 0) (key_laws : ReadLaws ek WK AK fk) (value_laws : ReadLaws ev WV AV fv) where
      -- the laws of the same encodings as maps
      as_map : ReadLaws (map_enc ek ev) (IsWritableMap WK cmp WV) (IsAllowedMap range AK AV)
          (MapFault ek WK cmp AK fk ev WV AV fv range)
      as_map = map_laws ek WK cmp key_prefix_free ev WV value_prefix_free key_eq total matches_eq key_canonical range AK
          fk AV fv key_laws value_laws

      -- the condition that no two values are equal
      distinctness :
          Condition (map_enc ek ev) (IsWritableMap WK cmp WV) (IsWritableBiMap WK cmp WV value_eq)
          (IsAllowedMap range AK AV) (MapFault ek WK cmp AK fk ev WV AV fv range)
          (BiMapFault ek WK cmp AK fk ev WV AV fv value_eq range)
          (BeginsRepeated ek WK cmp AK ev WV AV value_eq range) repeated_fault
      distinctness = record {
        without = λ m v. v.map;
        keeps_or_breaks = λ s m r a. elim (equal_items_or_none value_eq (values_of m)) [
          | inr none ↦ inl (record { map = a.writable; distinct = none })
          | inl twice ↦ inr
              (record
              { pairs = m; rest = r; begins = a.begins; writable = a.writable; allowed = a.allowed; repeated = twice })
        ];
        broken = λ s w. (
          w.pairs,
          w.rest,
          record { writable = w.writable; allowed = w.allowed; begins = w.begins },
          (λ m v e. let equal = (as_maps.equal_by_bytes m w.pairs v.map w.writable).1 e in
              v.distinct (repeated_back key_eq value_eq value_equiv m w.pairs equal w.repeated)),
        );
        faults = λ s f. (
          (λ w. elim w [ bad_map v ↦ inl v | bad_values e v ↦ inr (e, v) ]),
          (λ w. elim w [ inl v ↦ bad_map v | inr v ↦ bad_values v.0 v.1 ]),
        );
      }

      -- two faults of an input are in one error case
      pub bimap_one_case :
          (s : List ℕ) (f g : Fault) (v : BiMapFault ek WK cmp AK fk ev WV AV fv value_eq range s f)
          (w : BiMapFault ek WK cmp AK fk ev WV AV fv value_eq range s g) → bimap_case v ≡ bimap_case w
      bimap_one_case s f g (bad_map v) (bad_map w) = refl
      bimap_one_case s f g (bad_map v) (bad_values e w) = absurd (broken_no_fault as_map distinctness s f w v)
      bimap_one_case s f g (bad_values d v) (bad_map w) = absurd (broken_no_fault as_map distinctness s g v w)
      bimap_one_case s f g (bad_values d v) (bad_values e w) = refl

      -- the laws of the encodings of bimaps
      pub bimap_laws :
          ReadLaws (map_enc ek ev) (IsWritableBiMap WK cmp WV value_eq) (IsAllowedMap range AK AV)
          (BiMapFault ek WK cmp AK fk ev WV AV fv value_eq range)
      bimap_laws =
          condition_laws as_map distinctness (map_prefix_free ek WK cmp key_prefix_free ev WV value_prefix_free)
