-- What is returned for the values of a map is returned for the pairs that it was made of.
use Rattle.std.proofs.Common.{◌≡◌, ◌≤◌, arith, length, Bool, List, Option, inl, inr, refl, subst, sym}
use Rattle.std.specs.Prelude.{Err, IsErrAnd, [], ◌∷◌, IfErr, IfOk, MatchResult, Ok, Result, true}
use Rattle.std.specs.Cmp.{IsEquivalence}
use Rattle.std.specs.List.Sorted.{IsPermutation}
use Rattle.std.specs.Map.{values_of}
use Rattle.std.specs.declared.cmp.Ordering.{Ordering}
use Rattle.std.proofs.lemmas.List.Sorted.{IsPermutation-map, IsPermutation-sym, length_permutation}
use Rattle.std.proofs.lemmas.List.Elements.{length_all_zip}
use Rattle.commonware_base.specs.laws.CloneLaws.{equal_from_all_zip}
use Rattle.commonware_base.specs.Taken.{TakesAll, TakesSome}
use Rattle.commonware_ordered.specs.laws.EqualItemLaws.{equal_items_or_none, none_equal_moved}
use Rattle.commonware_map.specs.Pairs.{is_equal_pair}
use Rattle.commonware_ordered.specs.Whole.{IsSetOfAll, IsSetOfClones, MatchError}
use Rattle.commonware_ordered.specs.declared.error.Error.{Error}
use Rattle.commonware_ordered.specs.declared.error.Error.TheVariants.{DuplicateKey, DuplicateValue, Memory}
use Rattle.commonware_bimap.specs.laws.BiMapLaws.{repeated_back, repeated_together}
use Rattle.commonware_bimap.specs.WholeBiMaps.{HasEqualValues, IsBiMapOfAll, IsRefusedBiMap, IsWholeBiMapOfClones}

-- what isn't empty has an item
pub some_unless_none : {X : Type 0} (xs : List X) → ¬ (xs ≡ []) → 1 ≤ length xs
some_unless_none [] h = absurd (h refl)
some_unless_none (x ∷ xs) h = omega arith

module _ {K V : Type 0} (key_eq : K → K → Bool) (key_cmp : K → K → Ordering) (value_eq : V → V → Bool) (value_laws : IsEquivalence value_eq) where
  -- what is returned for a map: the same pairs, of which no two values are equal; or that two are
  abbrev IsChecked : List (K × V) → Result (List (K × V)) Error → Type 0
  IsChecked m r = MatchResult r (λ b. (b ≡ m) × (¬ HasEqualValues value_eq m)) (λ e. MatchError e ⊥ (HasEqualValues value_eq m) (1 ≤ length m))

  -- an allocation failure, where there is a pair
  pub memory_checked : (m : List (K × V)) (r : Result (List (K × V)) Error) → 1 ≤ length m → IsErrAnd r (λ e. e ≡ Memory) → IsChecked m r
  memory_checked m (Ok b) some h = absurd h
  memory_checked m (Err e) some h = subst (λ e. IsChecked m (Err e)) (sym h) some

  -- pairs that change places keep their values unequal
  values_moved : (l m : List (K × V)) → IsPermutation l m → ¬ HasEqualValues value_eq l → ¬ HasEqualValues value_eq m
  values_moved l m p = none_equal_moved value_eq value_laws.symm (values_of l) (values_of m) (IsPermutation-map (λ e. e.1) l m p)

  -- and equal
  values_kept : (l m : List (K × V)) → IsPermutation l m → HasEqualValues value_eq m → HasEqualValues value_eq l
  values_kept l m p twice = elim (equal_items_or_none value_eq (values_of l)) [ inl h ↦ h | inr none ↦ absurd (values_moved l m p none twice) ]

  -- what is returned for the map of all pairs is returned for the pairs
  pub whole_bimap : (Whole : Type 0) → Whole → (l m : List (K × V)) → IsSetOfAll (λ p q. key_eq p.0 q.0) (λ p q. key_cmp p.0 q.0) l m → (r : Result (List (K × V)) Error) → IsChecked m r
      → MatchResult r (IsBiMapOfAll key_eq key_cmp value_eq l) (IsRefusedBiMap key_eq value_eq Whole l)
  whole_bimap Whole whole l m set (Ok b) h =
      (subst (IsSetOfAll (λ p q. key_eq p.0 q.0) (λ p q. key_cmp p.0 q.0) l) (sym h.0) set, values_moved m l (IsPermutation-sym l m set.1) h.1)
  whole_bimap Whole whole l m set (Err DuplicateKey) h = absurd h
  whole_bimap Whole whole l m set (Err DuplicateValue) h = (values_kept l m set.1 h, set.2, whole)
  whole_bimap Whole whole l m set (Err Memory) h = omega (arith, h, length_permutation l m set.1)

  module _ (Clone : K × V → K × V → Type 0) (each : (p q : K × V) → Clone p q → is_equal_pair key_eq value_eq p q ≡ true) where
    -- what is returned for the map of clones of all pairs is returned for the pairs
    pub whole_bimap_of_clones : (l m : List (K × V)) → IsSetOfClones (λ p q. key_eq p.0 q.0) (λ p q. key_cmp p.0 q.0) Clone l m → (r : Result (List (K × V)) Error) → IsChecked m r → IsWholeBiMapOfClones key_eq key_cmp value_eq Clone l r
    whole_bimap_of_clones l m set (Ok b) h =
        let equal = equal_from_all_zip Clone each l set.0 set.1 in (
          subst (IsSetOfClones (λ p q. key_eq p.0 q.0) (λ p q. key_cmp p.0 q.0) Clone l) (sym h.0) set,
          λ twice. values_moved m set.0 (IsPermutation-sym set.0 m set.3) h.1 (repeated_together key_eq value_eq value_laws l set.0 equal twice),
        )
    whole_bimap_of_clones l m set (Err DuplicateKey) h = absurd h
    whole_bimap_of_clones l m set (Err DuplicateValue) h = (repeated_back key_eq value_eq value_laws l set.0 (equal_from_all_zip Clone each l set.0 set.1) (values_kept set.0 m set.3 h), set.4, tt)
    whole_bimap_of_clones l m set (Err Memory) h = omega (arith, h, length_all_zip Clone l set.0 set.1, length_permutation set.0 m set.3)

  module _ {Given State : Type 0} (becomes : Given → State → Type 0) (steps : State → Option (K × V) → State → Type 0) (given : Given) where
    -- what is returned for the map of all that an iterator gave is returned for what it gave
    pub whole_from_iter : (m : List (K × V)) → TakesAll becomes steps given (λ xs. IsSetOfAll (λ p q. key_eq p.0 q.0) (λ p q. key_cmp p.0 q.0) xs m) → (r : Result (List (K × V)) Error) → IsChecked m r
        → IfOk r (λ b. TakesAll becomes steps given (λ xs. IsBiMapOfAll key_eq key_cmp value_eq xs b)) × IfErr r (λ e. TakesSome becomes steps given (λ xs ended. IsRefusedBiMap key_eq value_eq (ended ≡ true) xs e))
    whole_from_iter m (s, xs, made, d, set) (Ok b) h = ((s, xs, made, d, whole_bimap (Unit {0}) tt xs m set (Ok b) h), tt)
    whole_from_iter m (s, xs, made, d, set) (Err e) h = (tt, (s, made, (xs, true, (d.1.0, d.1.1, λ _. (d.0, d.1.2)), whole_bimap (true ≡ true) refl xs m set (Err e) h)))
