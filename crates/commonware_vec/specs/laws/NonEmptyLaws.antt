-- A non-empty list keeps the laws that its items keep.
use Rattle.std.specs.Prelude.{◌≡◌, ◌≤◌, ◌⊎◌, ℕ, List, [], ◌∷◌, ◌++◌, Bool, length, refl}
use Rattle.std.proofs.Common.{ap, arith, inl, inr, subst, sym, ◌∙◌}
use Rattle.std.specs.Cmp.Lexicographic.{pointwise}
use Rattle.commonware_base.specs.Range.{Bounds, Within}
use Rattle.commonware_base.specs.Fault.{Fault}
use Rattle.commonware_base.specs.Text.{IsPrefixFree, ReadLaws, CanonicalLaws}
use Rattle.commonware_base.specs.laws.ConditionLaws.{Condition, broken_no_fault, condition_laws}
use Rattle.commonware_base.specs.Lists.{list_enc, IsWritableList, IsAllowedList, ListFault}
use Rattle.commonware_base.specs.laws.ListLaws.{list_prefix_free, list_laws}
use Rattle.commonware_base.specs.laws.ListLaws.{list_canonical, pointwise_length, split_count}
use Rattle.commonware_base.specs.Varint.{varint}
use Rattle.commonware_vec.specs.NonEmpty.{IsWritableNonEmpty, BeginsEmpty, empty_fault, NonEmptyFault, bad_list}
use Rattle.commonware_vec.specs.NonEmpty.{no_items, non_empty_case}

-- a list has an item, or it has none
some_or_none : {T : Type 0} (l : List T) → (1 ≤ length l) ⊎ (l ≡ [])
some_or_none [] = inr refl
some_or_none (x ∷ l) = inl (omega arith)

-- the empty list can be written
empty_writable : {T : Type 0} (Writable : T → Type 0) → IsWritableList Writable []
empty_writable Writable = record { short = omega arith; each = tt }

module _ {T : Type 0} (enc : T → List ℕ) where
  -- an input that begins with a byte 0 begins with the empty list
  empty_begins : (rest : List ℕ) → 0 ∷ rest ≡ list_enc enc [] ++ rest
  unfolding varint
  empty_begins rest = refl

  -- an input that begins with an empty list begins with a byte 0
  pub begins_empty : (range : Bounds ℕ) (s : List ℕ) (v : List T) (r : List ℕ) → length v ≡ 0 → s ≡ list_enc enc v ++ r
      → Within range (length v) → BeginsEmpty range s
  begins_empty range s [] r none e within = record { rest = r; begins = e ∙ sym (empty_begins r); in_range = within }
  begins_empty range s (x ∷ v) r none e within = absurd (omega (arith, none))

module _ {T : Type 0} (enc : T → List ℕ) (Writable : T → Type 0) (prefix_free : IsPrefixFree enc Writable) where
  -- no encoding of a list that isn't empty is a proper prefix of another's
  pub non_empty_prefix_free : IsPrefixFree (list_enc enc) (IsWritableNonEmpty Writable)
  non_empty_prefix_free a b x y p q e = list_prefix_free enc Writable prefix_free a b x y p.list q.list e

  -- they are equal exactly where their encodings are
  pub non_empty_canonical : (eq : T → T → Bool) → CanonicalLaws enc Writable eq
      → CanonicalLaws (list_enc enc) (IsWritableNonEmpty Writable) (pointwise eq)
  non_empty_canonical eq canonical =
      let h = list_canonical enc Writable prefix_free eq canonical in
      record {
        equal_by_bytes = λ a b p q. h.equal_by_bytes a b p.list q.list;
        writable_together =
            λ a b e p. record {
              list = h.writable_together a b e p.list;
              some =
                  subst (λ n. 1 ≤ n) (pointwise_length enc Writable prefix_free eq a b e) p.some;
            };
      }

  -- a list with an item isn't encoded as the empty one
  not_encoded_empty : (v : List T) → IsWritableNonEmpty Writable v → list_enc enc v ≡ list_enc enc [] → ⊥
  not_encoded_empty v p e =
      let none : length v ≡ 0 =
      (split_count enc Writable prefix_free v [] [] [] p.list (empty_writable Writable) (ap (λ u. u ++ []) e)).0 in
      omega (arith, none, p.some)

  module _ (Allowed : T → Type 0) (item_fault : List ℕ → Fault → Type 0) (range : Bounds ℕ)
      (item_laws : ReadLaws enc Writable Allowed item_fault) where
    -- the laws of the same encodings as lists
    as_list :
        ReadLaws (list_enc enc) (IsWritableList Writable) (IsAllowedList range Allowed)
        (ListFault enc Writable Allowed item_fault range)
    as_list = list_laws enc Writable prefix_free Allowed item_fault range item_laws

    -- the condition that a list has an item
    non_emptiness :
        Condition (list_enc enc) (IsWritableList Writable) (IsWritableNonEmpty Writable) (IsAllowedList range Allowed)
        (ListFault enc Writable Allowed item_fault range) (NonEmptyFault enc Writable Allowed item_fault range)
        (BeginsEmpty range) empty_fault
    non_emptiness = record {
      without = λ v p. p.list;
      keeps_or_breaks = λ s v r a. elim (some_or_none v) [
        | inl p ↦ inl (record { list = a.writable; some = p })
        | inr n ↦ inr (begins_empty enc range s v r (ap length n) a.begins a.allowed.in_range)
      ];
      broken = λ s w. (
        [],
        w.rest,
        record {
          writable = empty_writable Writable;
          allowed = record { in_range = w.in_range; each = tt };
          begins = w.begins ∙ empty_begins enc w.rest;
        },
        not_encoded_empty,
      );
      faults = λ s f. (
        (λ w. elim w [ bad_list v ↦ inl v | no_items e v ↦ inr (e, v) ]),
        (λ w. elim w [ inl v ↦ bad_list v | inr v ↦ no_items v.0 v.1 ]),
      );
    }

    -- two faults of an input are in one error case
    pub non_empty_one_case :
        (s : List ℕ) (f g : Fault) (v : NonEmptyFault enc Writable Allowed item_fault range s f)
        (w : NonEmptyFault enc Writable Allowed item_fault range s g) → non_empty_case v ≡ non_empty_case w
    non_empty_one_case s f g (bad_list v) (bad_list w) = refl
    non_empty_one_case s f g (bad_list v) (no_items e w) = absurd (broken_no_fault as_list non_emptiness s f w v)
    non_empty_one_case s f g (no_items d v) (bad_list w) = absurd (broken_no_fault as_list non_emptiness s g v w)
    non_empty_one_case s f g (no_items d v) (no_items e w) = refl

    -- the laws of the encodings of non-empty lists
    pub non_empty_laws :
        ReadLaws (list_enc enc) (IsWritableNonEmpty Writable) (IsAllowedList range Allowed)
        (NonEmptyFault enc Writable Allowed item_fault range)
    non_empty_laws = condition_laws as_list non_emptiness (list_prefix_free enc Writable prefix_free)
