-- Weights with their keys: each input begins with them, or has exactly one fault.
use Rattle.std.proofs.Common.{◌≡◌, ◌⊎◌, inl, inr, ℕ, zero, suc, ◌+◌, ◌<◌, ◌≤◌, ◌^◌, Bool, true, false, ◌&&◌, List, [], ◌∷◌, ◌++◌, length, get_or}
use Rattle.std.proofs.Common.{refl, ap, sym, ◌∙◌, subst, arith, append_assoc}
use Rattle.std.specs.Cmp.{IsTotalOrder}
use Rattle.std.specs.Cmp.Lexicographic.{pointwise}
use Rattle.std.specs.List.{flat_map}
use Rattle.std.specs.Map.{keys_of, values_of}
use Rattle.std.specs.Ordering.{is_eq}
use Rattle.std.specs.Prelude.{◌==◌}
use Rattle.std.specs.declared.cmp.Ordering.{Ordering}
use Rattle.std.proofs.lemmas.Bool.{cases_lt, eqb-true}
use Rattle.std.proofs.lemmas.List.Sums.{sum_by_more}
use Rattle.commonware_base.specs.Fault.{Fault}
use Rattle.commonware_base.specs.Lists.{list_enc, IsListMemoryFree}
use Rattle.commonware_base.specs.Range.{Bounds}
use Rattle.commonware_base.specs.Text.{Accepts, CanonicalLaws, IsPrefixFree, ReadLaws}
use Rattle.commonware_base.specs.Varint.{varint}
use Rattle.commonware_base.specs.laws.ListLaws.{list_needs_memory}
use Rattle.commonware_map.specs.Maps.{MapFault}
use Rattle.commonware_map.specs.laws.MapLaws.{map_canonical, map_laws, map_prefix_free}
use Rattle.commonware_map.specs.laws.PairLaws.{equal_by_parts}
use Rattle.commonware_sequence.specs.U64.{u64_bytes, u64_fault, IsU64}
use Rattle.commonware_sequence.specs.laws.U64Laws.{u64_canonical, u64_laws, u64_prefix_free}
use Rattle.committee_weights.specs.Keyed.{keyed_enc, AreKeyedWeights, IsAllowedKeyed, IsKeyed, IsKeyedFault, KeyedFault, KeyedLaws, Refused, Undecodable}
use Rattle.committee_weights.specs.Refusals.{AreCommitteeWeights, IsRefusedAs}
use Rattle.committee_weights.specs.declared.weights.error.WeightsError.{WeightsError}
use Rattle.committee_weights.specs.declared.weights.error.WeightsError.TheVariants.{Empty, TooMany, Zero, Overflow}
use Rattle.committee_weights.proofs.Refusing.{accepted_at_end, accepted_not_refused, one_refusal, refused_at, AreSummed}

-- where both hold, the first does
first_true : (a b : Bool) → (a && b) ≡ true → a ≡ true
first_true true b e = refl
first_true false b e = absurd (cc)

-- and the second
second_true : (a b : Bool) → (a && b) ≡ true → b ≡ true
second_true true b e = e
second_true false b e = absurd (cc)

-- lists of equal numbers are one
same_numbers : (xs ys : List ℕ) → pointwise (◌==◌) xs ys ≡ true → xs ≡ ys
same_numbers [] [] e = refl
same_numbers [] (y ∷ ys) e = absurd (cc)
same_numbers (x ∷ xs) [] e = absurd (cc)
same_numbers (x ∷ xs) (y ∷ ys) e =
    let tail = same_numbers xs ys (second_true (x == y) (pointwise (◌==◌) xs ys) e) in
    let head = eqb-true x y (first_true (x == y) (pointwise (◌==◌) xs ys) e) in
    cc (head, tail)

-- a list of numbers is weights of a committee, or is refused
abbrev AcceptedOrRefused : List ℕ → Type 0
AcceptedOrRefused ws = AreCommitteeWeights ws ⊎ ((e : WeightsError) × IsRefusedAs ws e)

-- one weight more is summed
summed_next : (ws : List ℕ) (i total : ℕ) → i < length ws → AreSummed ws i total → 0 < get_or ws i 0
    → total + get_or ws i 0 < 2 ^ 64 → AreSummed ws (i + 1) (total + get_or ws i 0)
summed_next ws i total within s some fits = (
  omega (arith, s.0, sum_by_more (λ x. x) ws i 0 within),
  fits,
  λ k below. elim (cases_lt k i) [
    | inl less ↦ s.2 k less
    | inr last ↦
        let same : i ≡ k = omega arith in
        subst (λ j. 1 ≤ get_or ws j 0) same some
  ],
)

-- one weight after another
from_place : (ws : List ℕ) (left i total : ℕ) → 1 ≤ length ws → length ws < 2 ^ 32 → length ws ≤ i + left
    → AreSummed ws i total → AcceptedOrRefused ws
from_place ws zero i total some few end s = inl (accepted_at_end ws i total some few (omega arith) s).0
from_place ws (suc left) i total some few end s =
    let w = get_or ws i 0 in
    elim (cases_lt i (length ws)) [
      | inr all ↦ inl (accepted_at_end ws i total some few all s).0
      | inl within ↦ elim (cases_lt 0 w) [
        | inr none ↦
            let is : w ≡ 0 = omega arith in
            inr (Zero i, refused_at ws i total w (Zero i) few within s refl (inl (refl, is)))
        | inl positive ↦ elim (cases_lt (total + w) (2 ^ 64)) [
          | inr over ↦ inr (Overflow i, refused_at ws i total w (Overflow i) few within s refl (inr (refl, over)))
          | inl fits ↦
              from_place ws left (i + 1) (total + w) some few (omega arith) (summed_next ws i total within s positive fits)
        ]
      ]
    ]

-- a list is accepted or refused
accepted_or_refused : (ws : List ℕ) → AcceptedOrRefused ws
accepted_or_refused ws =
    elim (cases_lt (length ws) 1) [
      | inl none ↦
          let is : length ws ≡ 0 = omega arith in
          inr (Empty, is)
      | inr some ↦ elim (cases_lt (length ws) (2 ^ 32)) [
        | inr many ↦ inr (TooMany, many)
        | inl few ↦ from_place ws (length ws) 0 0 some few (omega arith) (refl, omega arith, λ k below. absurd (omega arith))
      ]
    ]

module _ {K : Type 0} (ek : K → List ℕ) (WK : K → Type 0) (cmp : K → K → Ordering) (AK : K → Type 0)
    (fk : List ℕ → Fault → Type 0) (range : Bounds ℕ) (key_laws : ReadLaws ek WK AK fk) where
  -- a map with a pair isn't read without an allocation
  pub reading_allocates : (free : List ℕ → Type 0) (s : List ℕ) (m : List (K × ℕ)) (r : List ℕ)
      → Accepts (keyed_enc ek) (IsKeyed WK cmp) (IsAllowedKeyed range AK) s m r → AreCommitteeWeights (values_of m)
      → ¬ IsListMemoryFree fk free range s
  reading_allocates free s [] r a w = absurd (omega (arith, w.are_weights.some))
  reading_allocates free s (p ∷ m) r a w =
      let ks = keys_of m in
      let n = length (p.0 ∷ ks) in
      let values = list_enc u64_bytes (values_of (p ∷ m)) ++ r in
      let rest = flat_map ek ks ++ values in
      let begins : s ≡ varint n ++ (flat_map ek (p.0 ∷ ks) ++ values) =
      a.begins ∙ append_assoc (list_enc ek (p.0 ∷ ks)) (list_enc u64_bytes (values_of (p ∷ m))) r
      ∙ append_assoc (varint n) (flat_map ek (p.0 ∷ ks)) values in
      list_needs_memory fk free range s n (flat_map ek (p.0 ∷ ks) ++ values) a.writable.0.list.short (omega arith)
      a.allowed.0.in_range begins
      (λ f_free f faulty. key_laws.accepted_no_fault (flat_map ek (p.0 ∷ ks) ++ values) p.0 rest f
      (record {
        writable = a.writable.0.list.each.0;
        allowed = a.allowed.0.each.0;
        begins = append_assoc (ek p.0) (flat_map ek ks) values;
      })
      faulty)

  module _ (key_prefix_free : IsPrefixFree ek WK) (eq : K → K → Bool) (total : IsTotalOrder cmp)
      (matches_eq : (x y : K) → eq x y ≡ is_eq (cmp x y)) (key_canonical : CanonicalLaws ek WK eq) where
    -- the laws of the map
    laws : ReadLaws (keyed_enc ek) (IsKeyed WK cmp) (IsAllowedKeyed range AK)
        (MapFault ek WK cmp AK fk u64_bytes IsU64 (λ _. Unit {0}) u64_fault range)
    laws =
        map_laws ek WK cmp key_prefix_free u64_bytes IsU64 u64_prefix_free eq total matches_eq key_canonical range AK fk
        (λ _. Unit {0}) u64_fault key_laws u64_laws

    -- maps of one encoding have the same values
    values_by_bytes : (m n : List (K × ℕ)) → IsKeyed WK cmp m → IsKeyed WK cmp n → keyed_enc ek m ≡ keyed_enc ek n
        → values_of m ≡ values_of n
    values_by_bytes m n v w e =
        let canonical = map_canonical ek WK cmp key_prefix_free u64_bytes IsU64 u64_prefix_free eq total matches_eq
        key_canonical (◌==◌) u64_canonical in
        let equal = sym (equal_by_parts eq (◌==◌) m n) ∙ (canonical.equal_by_bytes m n v w).1 e in
        same_numbers (values_of m) (values_of n)
        (second_true (pointwise eq (keys_of m) (keys_of n)) (pointwise (◌==◌) (values_of m) (values_of n)) equal)

    -- so one input begins with one list of values
    same_values : (s : List ℕ) (m n : List (K × ℕ)) (x y : List ℕ)
        → Accepts (keyed_enc ek) (IsKeyed WK cmp) (IsAllowedKeyed range AK) s m x
        → Accepts (keyed_enc ek) (IsKeyed WK cmp) (IsAllowedKeyed range AK) s n y → values_of m ≡ values_of n
    same_values s m n x y a b =
        values_by_bytes m n a.writable b.writable
        (map_prefix_free ek WK cmp key_prefix_free u64_bytes IsU64 u64_prefix_free m n x y a.writable b.writable
        (sym a.begins ∙ b.begins))

    -- the map that comes, whatever its values are
    map_of : (s : List ℕ) (m : List (K × ℕ)) (r : List ℕ)
        → Accepts (keyed_enc ek) (AreKeyedWeights WK cmp) (IsAllowedKeyed range AK) s m r
        → Accepts (keyed_enc ek) (IsKeyed WK cmp) (IsAllowedKeyed range AK) s m r
    map_of s m r a = record { writable = a.writable.0; allowed = a.allowed; begins = a.begins }

    -- one fault
    one : (s : List ℕ) (f g : KeyedFault) → IsKeyedFault ek WK cmp AK fk range s f
        → IsKeyedFault ek WK cmp AK fk range s g → f ≡ g
    one s (Undecodable f) (Undecodable g) v w = ap Undecodable (laws.one_fault s f g v w)
    one s (Undecodable f) (Refused d) v w = absurd (laws.accepted_no_fault s w.map w.rest f w.accepted v)
    one s (Refused e) (Undecodable g) v w = absurd (laws.accepted_no_fault s v.map v.rest g v.accepted w)
    one s (Refused e) (Refused d) v w =
        let same = same_values s w.map v.map w.rest v.rest w.accepted v.accepted in
        ap Refused
        (one_refusal (values_of v.map) e d v.refused (subst (λ (ws : List ℕ). IsRefusedAs ws d) same w.refused))

    -- none where weights come
    none : (s : List ℕ) (m : List (K × ℕ)) (r : List ℕ) (f : KeyedFault)
        → Accepts (keyed_enc ek) (AreKeyedWeights WK cmp) (IsAllowedKeyed range AK) s m r
        → ¬ IsKeyedFault ek WK cmp AK fk range s f
    none s m r (Undecodable f) a w = laws.accepted_no_fault s m r f (map_of s m r a) w
    none s m r (Refused e) a w =
        let same = same_values s w.map m w.rest r w.accepted (map_of s m r a) in
        accepted_not_refused (values_of m) e a.writable.1 (subst (λ (ws : List ℕ). IsRefusedAs ws e) same w.refused)

    -- the laws of weights with their keys
    pub keyed_laws : KeyedLaws ek WK cmp AK fk range
    keyed_laws = record {
      one_fault = one;
      accepted_no_fault = none;
      accepted_or_faulty = λ s bytes. elim (laws.accepted_or_faulty s bytes) [
        | inr w ↦ inr (Undecodable w.0, w.1)
        | inl a ↦ elim (accepted_or_refused (values_of a.0)) [
          | inl are ↦ inl (
            a.0,
            a.1,
            record { writable = (a.2.writable, are); allowed = a.2.allowed; begins = a.2.begins },
          )
          | inr e ↦ inr (Refused e.0, record { map = a.0; rest = a.1; accepted = a.2; refused = e.1 })
        ]
      ];
      weights_by_bytes = values_by_bytes;
    }
