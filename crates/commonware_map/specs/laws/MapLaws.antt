-- A map keeps the laws that its keys and values keep.
use Rattle.std.specs.Prelude.{◌≡◌, ℕ, List, [], ◌∷◌, ◌++◌, Bool, ◌&&◌, length}
use Rattle.std.proofs.Common.{ap, sym, subst, refl, arith, ◌∙◌}
use Rattle.std.specs.Cmp.{IsTotalOrder}
use Rattle.std.specs.Cmp.Lexicographic.{pointwise}
use Rattle.std.specs.Ordering.{is_eq}
use Rattle.std.specs.declared.cmp.Ordering.{Ordering}
use Rattle.commonware_base.specs.Range.{Bounds, exactly}
use Rattle.commonware_base.specs.Fault.{Fault}
use Rattle.commonware_base.specs.Text.{AreBytes, IsPrefixFree, ReadLaws, CanonicalLaws}
use Rattle.commonware_base.specs.laws.TextLaws.{prefix_free_on, canonical_on, laws_on}
use Rattle.commonware_base.specs.Lists.{list_enc, IsWritableList, IsAllowedList, ListFault}
use Rattle.commonware_base.specs.laws.ListLaws.{list_prefix_free, list_laws, list_canonical, list_bytes, split_count}
use Rattle.commonware_base.specs.Sequence.{sequence_enc, IsWritableSequence, IsAllowedSequence, sequence_case}
use Rattle.commonware_base.specs.laws.SequenceLaws.{sequence_bytes, sequence_prefix_free}
use Rattle.commonware_base.specs.laws.SequenceLaws.{sequence_canonical, sequence_laws}
use Rattle.commonware_base.specs.laws.SequenceLaws.{sequence_one_case}
use Rattle.commonware_map.specs.Maps.{columns, map_enc, IsWritableMap, AreAllowedValues, IsAllowedMap, MapFault}
use Rattle.commonware_map.specs.Pairs.{are_equal_pairs}
use Rattle.commonware_map.specs.laws.PairLaws.{equal_by_parts}
use Rattle.commonware_ordered.specs.laws.SetLaws.{set_prefix_free, set_canonical, set_laws}
use Rattle.commonware_ordered.specs.Sets.{IsWritableSet, SetFault}

-- two lists of one length are the columns of a list of pairs
paired : {K V : Type 0} (ks : List K) (vs : List V) → length ks ≡ length vs
    → (m : List (K × V)) × ((ks, vs) ≡ columns m)
paired [] [] e = ([], refl)
paired [] (v ∷ vs) e = absurd (omega arith)
paired (k ∷ ks) [] e = absurd (omega arith)
paired (k ∷ ks) (v ∷ vs) e =
    let rest = paired ks vs (omega arith) in
    ((k, v) ∷ rest.0, ap (λ h. (k ∷ h.0, v ∷ h.1)) rest.1)

module _ {K V : Type 0} (ek : K → List ℕ) (WK : K → Type 0) (cmp : K → K → Ordering)
    (key_prefix_free : IsPrefixFree ek WK) (ev : V → List ℕ) (WV : V → Type 0) where
  -- what is written is bytes
  pub map_bytes : ((k : K) → WK k → AreBytes (ek k)) → ((v : V) → WV v → AreBytes (ev v)) → (m : List (K × V))
      → IsWritableMap WK cmp WV m → AreBytes (map_enc ek ev m)
  map_bytes each_key each_value m w =
      sequence_bytes (list_enc ek) (IsWritableSet WK cmp) (set_prefix_free ek WK cmp key_prefix_free) (list_enc ev)
      (IsWritableList WV) (λ ks h. list_bytes ek WK each_key ks h.list) (list_bytes ev WV each_value) (columns m) w

  module _ (value_prefix_free : IsPrefixFree ev WV) where
    -- no encoding of a map is a proper prefix of another's
    pub map_prefix_free : IsPrefixFree (map_enc ek ev) (IsWritableMap WK cmp WV)
    map_prefix_free =
        prefix_free_on columns (sequence_enc (list_enc ek) (list_enc ev))
        (IsWritableSequence (IsWritableSet WK cmp) (IsWritableList WV))
        (sequence_prefix_free (list_enc ek) (IsWritableSet WK cmp) (set_prefix_free ek WK cmp key_prefix_free)
        (list_enc ev) (IsWritableList WV) (list_prefix_free ev WV value_prefix_free))

    -- sets of keys of one encoding are of one length
    same_length : (x z : List K) → IsWritableSet WK cmp x → IsWritableSet WK cmp z → list_enc ek x ≡ list_enc ek z
        → length x ≡ length z
    same_length x z p q e = (split_count ek WK key_prefix_free x z [] [] p.list q.list (ap (λ u. u ++ []) e)).0

    module _ (eq : K → K → Bool) (total : IsTotalOrder cmp) (matches_eq : (x y : K) → eq x y ≡ is_eq (cmp x y))
        (key_canonical : CanonicalLaws ek WK eq) where
      -- maps are equal exactly where their encodings are, if the values are
      pub map_canonical : (value_eq : V → V → Bool) → CanonicalLaws ev WV value_eq
          → CanonicalLaws (map_enc ek ev) (IsWritableMap WK cmp WV) (are_equal_pairs eq value_eq)
      map_canonical value_eq value_canonical =
          let h = canonical_on columns (sequence_enc (list_enc ek) (list_enc ev))
          (IsWritableSequence (IsWritableSet WK cmp) (IsWritableList WV))
          (λ p q. pointwise eq p.0 q.0 && pointwise value_eq p.1 q.1)
          (sequence_canonical (list_enc ek) (IsWritableSet WK cmp) (set_prefix_free ek WK cmp key_prefix_free)
          (list_enc ev) (IsWritableList WV) (list_prefix_free ev WV value_prefix_free) (pointwise eq)
          (pointwise value_eq)
          (set_canonical ek WK cmp key_prefix_free eq total matches_eq key_canonical)
          (list_canonical ev WV value_prefix_free value_eq value_canonical)) in
          record {
            equal_by_bytes =
                λ m n v w. (
                  (λ e. (h.equal_by_bytes m n v w).0 (sym (equal_by_parts eq value_eq m n) ∙ e)),
                  (λ e. equal_by_parts eq value_eq m n ∙ (h.equal_by_bytes m n v w).1 e),
                );
            writable_together = λ m n e. h.writable_together m n (sym (equal_by_parts eq value_eq m n) ∙ e);
          }

      module _ (range : Bounds ℕ) (AK : K → Type 0) (fk : List ℕ → Fault → Type 0) (AV : V → Type 0)
          (fv : List ℕ → Fault → Type 0) (key_laws : ReadLaws ek WK AK fk) (value_laws : ReadLaws ev WV AV fv) where
        -- the limits of the values depend on the number of keys
        same_allowed : (x z : List K) (y : List V) → IsWritableSet WK cmp x → IsWritableSet WK cmp z
            → list_enc ek x ≡ list_enc ek z → AreAllowedValues AV x y → AreAllowedValues AV z y
        same_allowed x z y p q e h = subst (λ n. IsAllowedList (exactly n) AV y) (same_length x z p q e) h

        -- and so do their faults
        same_fault : (x z : List K) (s : List ℕ) (f : Fault) → IsWritableSet WK cmp x → IsWritableSet WK cmp z
            → list_enc ek x ≡ list_enc ek z → ListFault ev WV AV fv (exactly (length x)) s f
            → ListFault ev WV AV fv (exactly (length z)) s f
        same_fault x z s f p q e w = subst (λ n. ListFault ev WV AV fv (exactly n) s f) (same_length x z p q e) w

        -- the laws of the encodings of maps
        pub map_laws :
            ReadLaws (map_enc ek ev) (IsWritableMap WK cmp WV) (IsAllowedMap range AK AV)
            (MapFault ek WK cmp AK fk ev WV AV fv range)
        map_laws =
            laws_on columns (sequence_enc (list_enc ek) (list_enc ev))
            (IsWritableSequence (IsWritableSet WK cmp) (IsWritableList WV))
            (IsAllowedSequence (IsAllowedList range AK) (AreAllowedValues AV))
            (MapFault ek WK cmp AK fk ev WV AV fv range)
            (λ x w a. paired x.0 x.1 (omega (arith, a.1.in_range.above, a.1.in_range.below)))
            (sequence_laws (list_enc ek) (IsWritableSet WK cmp) (set_prefix_free ek WK cmp key_prefix_free)
            (list_enc ev) (IsWritableList WV) (list_prefix_free ev WV value_prefix_free)
            (IsAllowedList range AK) (SetFault ek WK cmp AK fk range)
            (set_laws ek WK cmp key_prefix_free eq total matches_eq key_canonical AK fk range key_laws)
            (AreAllowedValues AV) (λ ks. ListFault ev WV AV fv (exactly (length ks)))
            (λ ks. list_laws ev WV value_prefix_free AV fv (exactly (length ks)) value_laws) same_allowed
            same_fault)

        -- two faults of an input are in one error case
        pub map_one_case :
            (s : List ℕ) (f g : Fault) (v : MapFault ek WK cmp AK fk ev WV AV fv range s f)
            (w : MapFault ek WK cmp AK fk ev WV AV fv range s g) → sequence_case v ≡ sequence_case w
        map_one_case =
            sequence_one_case (list_enc ek) (IsWritableSet WK cmp) (set_prefix_free ek WK cmp key_prefix_free)
            (list_enc ev) (IsWritableList WV) (list_prefix_free ev WV value_prefix_free)
            (IsAllowedList range AK) (SetFault ek WK cmp AK fk range)
            (set_laws ek WK cmp key_prefix_free eq total matches_eq key_canonical AK fk range key_laws)
            (AreAllowedValues AV) (λ ks. ListFault ev WV AV fv (exactly (length ks)))
            (λ ks. list_laws ev WV value_prefix_free AV fv (exactly (length ks)) value_laws) same_allowed same_fault
