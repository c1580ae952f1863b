-- A set keeps the laws that its items keep.
use Rattle.std.specs.Prelude.{◌≡◌, ℕ, List, Bool}
use Rattle.std.proofs.Common.{inl, inr, refl}
use Rattle.std.specs.Cmp.{IsTotalOrder}
use Rattle.std.specs.Cmp.Lexicographic.{pointwise}
use Rattle.std.specs.Ordering.{is_eq}
use Rattle.std.specs.declared.cmp.Ordering.{Ordering}
use Rattle.commonware_base.specs.Range.{Bounds}
use Rattle.commonware_base.specs.Fault.{Fault}
use Rattle.commonware_base.specs.Text.{IsPrefixFree, ReadLaws, CanonicalLaws}
use Rattle.commonware_base.specs.laws.ConditionLaws.{Condition, broken_no_fault, condition_laws}
use Rattle.commonware_base.specs.Lists.{list_enc, IsWritableList, IsAllowedList, ListFault}
use Rattle.commonware_base.specs.laws.ListLaws.{list_prefix_free, list_laws, list_canonical}
use Rattle.commonware_ordered.specs.Sets.{IsWritableSet, BeginsUnsorted, unsorted_fault, SetFault, bad_list, bad_order}
use Rattle.commonware_ordered.specs.Sets.{set_case}
use Rattle.commonware_ordered.specs.laws.StrictLaws.{strict_or_not, strict_same}

module _ {T : Type 0} (enc : T → List ℕ) (Writable : T → Type 0) (cmp : T → T → Ordering)
    (prefix_free : IsPrefixFree enc Writable) where
  -- no encoding of a set is a proper prefix of another's
  pub set_prefix_free : IsPrefixFree (list_enc enc) (IsWritableSet Writable cmp)
  set_prefix_free a b x y p q e = list_prefix_free enc Writable prefix_free a b x y p.list q.list e

  module _ (eq : T → T → Bool) (total : IsTotalOrder cmp) (matches_eq : (x y : T) → eq x y ≡ is_eq (cmp x y))
      (canonical : CanonicalLaws enc Writable eq) where
    -- the law of the same items as lists
    as_lists : CanonicalLaws (list_enc enc) (IsWritableList Writable) (pointwise eq)
    as_lists = list_canonical enc Writable prefix_free eq canonical

    -- sets are equal exactly where their encodings are
    pub set_canonical : CanonicalLaws (list_enc enc) (IsWritableSet Writable cmp) (pointwise eq)
    set_canonical = record {
      equal_by_bytes = λ a b p q. as_lists.equal_by_bytes a b p.list q.list;
      writable_together = λ a b e p. record {
        list = as_lists.writable_together a b e p.list;
        strict = strict_same cmp eq total matches_eq a b e p.strict;
      };
    }

    module _ (Allowed : T → Type 0) (item_fault : List ℕ → Fault → Type 0) (range : Bounds ℕ)
        (item_laws : ReadLaws enc Writable Allowed item_fault) where
      -- the laws of the same encodings as lists
      as_list :
          ReadLaws (list_enc enc) (IsWritableList Writable) (IsAllowedList range Allowed)
          (ListFault enc Writable Allowed item_fault range)
      as_list = list_laws enc Writable prefix_free Allowed item_fault range item_laws

      -- the condition that the items are strictly increasing
      strictness :
          Condition (list_enc enc) (IsWritableList Writable) (IsWritableSet Writable cmp) (IsAllowedList range Allowed)
          (ListFault enc Writable Allowed item_fault range) (SetFault enc Writable cmp Allowed item_fault range)
          (BeginsUnsorted enc Writable cmp Allowed range) unsorted_fault
      strictness = record {
        without = λ v p. p.list;
        keeps_or_breaks = λ s v r a. elim (strict_or_not cmp v) [
          | inl p ↦ inl (record { list = a.writable; strict = p })
          | inr n ↦ inr
              (record
              { items = v; rest = r; begins = a.begins; writable = a.writable; allowed = a.allowed; unsorted = n })
        ];
        broken = λ s w. (
          w.items,
          w.rest,
          record { writable = w.writable; allowed = w.allowed; begins = w.begins },
          (λ v p e. let equal = (as_lists.equal_by_bytes v w.items p.list w.writable).1 e in
              w.unsorted (strict_same cmp eq total matches_eq v w.items equal p.strict)),
        );
        faults = λ s f. (
          (λ w. elim w [ bad_list v ↦ inl v | bad_order e v ↦ inr (e, v) ]),
          (λ w. elim w [ inl v ↦ bad_list v | inr v ↦ bad_order v.0 v.1 ]),
        );
      }

      -- two faults of an input are in one error case
      pub set_one_case :
          (s : List ℕ) (f g : Fault) (v : SetFault enc Writable cmp Allowed item_fault range s f)
          (w : SetFault enc Writable cmp Allowed item_fault range s g) → set_case v ≡ set_case w
      set_one_case s f g (bad_list v) (bad_list w) = refl
      set_one_case s f g (bad_list v) (bad_order e w) = absurd (broken_no_fault as_list strictness s f w v)
      set_one_case s f g (bad_order d v) (bad_list w) = absurd (broken_no_fault as_list strictness s g v w)
      set_one_case s f g (bad_order d v) (bad_order e w) = refl

      -- the laws of the encodings of sets
      pub set_laws :
          ReadLaws (list_enc enc) (IsWritableSet Writable cmp) (IsAllowedList range Allowed)
          (SetFault enc Writable cmp Allowed item_fault range)
      set_laws = condition_laws as_list strictness (list_prefix_free enc Writable prefix_free)
