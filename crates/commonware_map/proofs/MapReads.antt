-- What the reader of a map read: keys, and then values.
use Rattle.std.proofs.Common.{◌≡◌, ℕ, zero, List, [], ◌∷◌, ◌++◌, length, take, ap, sym, subst, ◌∙◌, arith, append_assoc, inl, inr}
use Rattle.std.specs.List.{flat_map, zip}
use Rattle.std.specs.declared.cmp.Ordering.{Ordering}
use Rattle.std.proofs.lemmas.List.{take-append-drop}
use Rattle.std.proofs.lemmas.Map.Made.{keys_of-zip}
use Rattle.commonware_base.specs.Fault.{Fault}
use Rattle.commonware_base.specs.Lists.{list_enc, IsWritableList, IsAllowedList, IsListMemoryFree, ListFault, bad_varint, bad_length, bad_item, faulty_varint, outside, empty}
use Rattle.commonware_base.specs.laws.ListLaws.{list_laws, list_needs_memory}
use Rattle.commonware_base.specs.Range.{Bounds, exactly}
use Rattle.commonware_base.specs.Sequence.{sequence_enc, IsWritableSequence, IsAllowedSequence}
use Rattle.commonware_base.specs.Source.{Consumes, rest_of}
use Rattle.commonware_base.specs.Text.{AreBytes, Accepts, IsPrefixFree, ReadLaws}
use Rattle.commonware_base.specs.laws.TextLaws.{bytes_right}
use Rattle.commonware_base.specs.Varint.{varint}
use Rattle.commonware_base.specs.declared.codec.source.Source.{Source}
use Rattle.commonware_base.proofs.SourceLemmas.{consumes_both}
use Rattle.commonware_map.specs.Maps.{columns, map_enc, IsWritableMap, IsAllowedMap}
use Rattle.commonware_ordered.specs.Sets.{IsWritableSet}
use Rattle.commonware_map.proofs.Columns.{values_of-zip}

-- what is left of a source are bytes
pub rest_bytes : (s : Source) → AreBytes s.bytes.now → AreBytes (rest_of s)
rest_bytes s h = bytes_right (take s.position s.bytes.now) (rest_of s) (subst AreBytes (sym (take-append-drop s.position s.bytes.now)) h)

-- the columns of keys beside as many values
pub columns-zip : {K V : Type 0} (ks : List K) (vs : List V) → length vs ≡ length ks → columns (zip ks vs) ≡ (ks, vs)
columns-zip ks vs even = λ j. (keys_of-zip ks vs even j, values_of-zip ks vs even j)

-- where exactly n are allowed, there are n
pub as_many : {V : Type 0} (Allowed : V → Type 0) (n : ℕ) (vs : List V) → IsAllowedList (exactly n) Allowed vs → length vs ≡ n
as_many Allowed n vs a = omega (arith, a.in_range.above, a.in_range.below)

module _ {K V : Type 0} (ek : K → List ℕ) (ev : V → List ℕ) where
  -- one list read after another is a map read
  pub consumes_map : (a b c : Source) (ks : List K) (vs : List V) → length vs ≡ length ks → Consumes a b (list_enc ek ks) → Consumes b c (list_enc ev vs) → Consumes a c (map_enc ek ev (zip ks vs))
  consumes_map a b c ks vs even p q = subst (λ h. Consumes a c (sequence_enc (list_enc ek) (list_enc ev) h)) (sym (columns-zip ks vs even)) (consumes_both a b c (list_enc ek ks) (list_enc ev vs) p q)

  module _ (WK AK : K → Type 0) (cmp : K → K → Ordering) (WV AV : V → Type 0) (range : Bounds ℕ) where
    -- keys and then as many values are a map
    pub accepts_map : (s t r : List ℕ) (ks : List K) (vs : List V) → IsWritableSet WK cmp ks → IsAllowedList range AK ks → IsWritableList WV vs → IsAllowedList (exactly (length ks)) AV vs
        → s ≡ list_enc ek ks ++ t → t ≡ list_enc ev vs ++ r → Accepts (map_enc ek ev) (IsWritableMap WK cmp WV) (IsAllowedMap range AK AV) s (zip ks vs) r
    accepts_map s t r ks vs wk ak wv av e f =
        let cols = sym (columns-zip ks vs (as_many AV (length ks) vs av)) in
        record {
          writable = subst (IsWritableSequence (IsWritableSet WK cmp) (IsWritableList WV)) cols (wk, wv);
          allowed = subst (IsAllowedSequence (IsAllowedList range AK) (λ l. IsAllowedList (exactly (length l)) AV)) cols (ak, av);
          begins = e ∙ ap (λ u. list_enc ek ks ++ u) f ∙ sym (append_assoc (list_enc ek ks) (list_enc ev vs) r) ∙ ap (λ h. sequence_enc (list_enc ek) (list_enc ev) h ++ r) cols;
        }

-- no values under exactly 0 are decoded or refused without an allocation
free_of_none : {V : Type 0} (ev : V → List ℕ) (WV AV : V → Type 0) (fv : List ℕ → Fault → Type 0) (mv : List ℕ → Type 0) (t : List ℕ) → IsPrefixFree ev WV → ReadLaws ev WV AV fv → AreBytes t → IsListMemoryFree fv mv (exactly zero) t
free_of_none {V} ev WV AV fv mv t value_prefix_free value_laws bytes = elim ((list_laws ev WV value_prefix_free AV fv (exactly zero) value_laws).accepted_or_faulty t bytes) [
  | inl a ↦ accepted a.0 a.1 (as_many AV zero a.0 a.2.allowed) a.2.begins
  | inr w ↦ faulty w.0 w.1
]
  where
    accepted : (vs : List V) (r : List ℕ) → length vs ≡ zero → t ≡ list_enc ev vs ++ r → IsListMemoryFree fv mv (exactly zero) t
    accepted [] r n e = empty r (e ∙ append_assoc (varint zero) [] r)
    accepted (v ∷ vs) r n e = absurd (omega arith)

    faulty : (f : Fault) → ListFault ev WV AV fv (exactly zero) t f → IsListMemoryFree fv mv (exactly zero) t
    faulty f (bad_varint w) = faulty_varint f w
    faulty f (bad_length count same w) = outside count w
    faulty f (bad_item w) = absurd (omega (arith, w.in_range.below, w.fewer))

module _ {K V : Type 0} (ek : K → List ℕ) (WK AK : K → Type 0) (fk : List ℕ → Fault → Type 0) (mk : List ℕ → Type 0) (key_laws : ReadLaws ek WK AK fk) (range : Bounds ℕ)
    (ev : V → List ℕ) (WV AV : V → Type 0) (fv : List ℕ → Fault → Type 0) (mv : List ℕ → Type 0) (value_prefix_free : IsPrefixFree ev WV) (value_laws : ReadLaws ev WV AV fv) where
  -- where reading the values allocates, so does reading the keys
  pub keys_want_memory : (s t : List ℕ) (ks : List K) → IsWritableList WK ks → IsAllowedList range AK ks → s ≡ list_enc ek ks ++ t → AreBytes t → ¬ IsListMemoryFree fv mv (exactly (length ks)) t → ¬ IsListMemoryFree fk mk range s
  keys_want_memory s t [] w a e bytes wants = absurd (wants (free_of_none ev WV AV fv mv t value_prefix_free value_laws bytes))
  keys_want_memory s t (k ∷ ks) w a e bytes wants =
      let n = length (k ∷ ks) in
      let rest = flat_map ek ks ++ t in
      list_needs_memory fk mk range s n (flat_map ek (k ∷ ks) ++ t) w.short (omega arith) a.in_range (e ∙ append_assoc (varint n) (flat_map ek (k ∷ ks)) t)
      (λ free f faulty. key_laws.accepted_no_fault (flat_map ek (k ∷ ks) ++ t) k rest f (record { writable = w.each.0; allowed = a.each.0; begins = append_assoc (ek k) (flat_map ek ks) t }) faulty)
