-- The place of an item in a list, and whether an equal item is in the list at all.
use Rattle.std.specs.Prelude.{◌≡◌, ◌↔◌, ℕ, Bool, IsSome, List, None, Option, Some, is_some, nat_eq, true}
use Rattle.std.specs.List.{Contains, IsAnyAnswer, list_any}
use Rattle.std.proofs.Common.{◌∙◌, eq-eqb, subst, sym}
use Rattle.std.proofs.lemmas.Bool.{eqb-true}
use Rattle.std.proofs.lemmas.List.Folds.{Any-from_list_any, list_any_at, list_any_none}
use Rattle.commonware_ordered.specs.Strict.{IsPlaceOf}
use Rattle.commonware_ordered.specs.Voters.{is_among}

-- there is a place exactly where an equal item is in the list
pub found-place : {T : Type 0} (eq : T → T → Bool) (xs : List T) (x : T) (place : Option ℕ) → IsPlaceOf eq xs x place
    → is_some place ≡ list_any (λ y. eq y x) xs
found-place eq xs x None none = sym (list_any_none (λ y. eq y x) xs none)
found-place eq xs x (Some i) (inside, equal) = sym (list_any_at (λ y. eq y x) xs i x inside (equal x))

-- the same in the words of std's tests of a list
pub answer-place : {T : Type 0} (eq : T → T → Bool) (xs : List T) (x : T) (place : Option ℕ) → IsPlaceOf eq xs x place
    → IsAnyAnswer (λ y b. eq y x ≡ b) xs (is_some place)
answer-place eq xs x None none = λ k d low high. none k d high
answer-place eq xs x (Some i) (inside, equal) = (i, inside, equal)

-- a participant that is among others is contained in them
pub among_iff : (xs : List ℕ) (p : ℕ) → (is_among xs p ≡ true) ↔ Contains xs p
among_iff xs p = (
  (λ e. let a = Any-from_list_any (λ x. nat_eq x p) xs e in
      let same : a.1 ≡ p = eqb-true a.1 p a.4 in
      subst (Contains xs) same (a.0, a.2, a.3)),
  (λ w. list_any_at (λ x. nat_eq x p) xs w.0 p w.1 (eq-eqb _ _ w.2)),
)

-- a participant has a place exactly where it is contained
pub place_iff : (xs : List ℕ) (p : ℕ) (place : Option ℕ) → IsPlaceOf nat_eq xs p place → IsSome place ↔ Contains xs p
place_iff xs p place h =
    let found = found-place nat_eq xs p place h in
    ((λ e. (among_iff xs p).0 (sym found ∙ e)), (λ w. found ∙ (among_iff xs p).1 w))
