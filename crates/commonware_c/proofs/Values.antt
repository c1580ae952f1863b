-- What is kept of a list of references, by what they refer to.
use Rattle.std.proofs.Common.{◌≡◌, ◌∙◌, ◌+◌, ◌<◌, ◌≤◌, ℕ, Bool, List, [], ◌∷◌, ◌++◌, Bor, length, map, get_or, arith, ap, inl, inr, refl, sym, subst, subst₂}
use Rattle.std.specs.Prelude.{Err, IfOk, None, Ok, OnErr, Option, Result, Some, false}
use Rattle.std.specs.List.{Contains, flat_map}
use Rattle.std.specs.Option.{option_map}
use Rattle.std.specs.declared.cmp.Ordering.{Ordering}
use Rattle.std.specs.declared.cmp.Ordering.TheVariants.{Less}
use Rattle.std.specs.Iterator.{Drains, YieldsFirstRef}
use Rattle.commonware_base.specs.Taken.{TakesSome}
use Rattle.std.proofs.lemmas.Iterator.Consumers.{YieldsList-at, YieldsList-from_first}
use Rattle.std.proofs.lemmas.Iterator.{YieldsList, items_from_drains}
use Rattle.std.proofs.lemmas.List.{get_or-map, get_or_default, length-map}
use Rattle.std.proofs.lemmas.Option.{same_Some, slice_get-map, slice_get_cases, slice_get_within}
use Rattle.commonware_sequence.specs.FixedBytes.{own_bytes}
use Rattle.commonware_ordered.specs.Dedup.{IsDedup, IsKept}
use Rattle.commonware_ordered.specs.Strict.{IsStrict}

module _ {R X : Type 0} (value : R → X) (eq : X → X → Bool) (cmp : X → X → Ordering) where
  -- the order and the equality of what they refer to
  abbrev pub eq_by : R → R → Bool
  eq_by x y = eq (value x) (value y)

  abbrev pub cmp_by : R → R → Ordering
  cmp_by x y = cmp (value x) (value y)

  -- the list of the values of a strictly increasing list is
  pub strict_values : (r : List R) → IsStrict cmp_by r → IsStrict cmp (map value r)
  strict_values [] strict k d h = absurd (omega (arith, h))
  strict_values (y ∷ r) strict k d h =
      let within : k + 1 < length (y ∷ r) = omega (arith, h, length-map (y ∷ r) value) in
      subst₂ (λ a b. cmp a b ≡ Less) (sym (get_or-map value (y ∷ r) k y d (omega (arith, within)))) (sym (get_or-map value (y ∷ r) (k + 1) y d within))
      (strict k y within)

  -- what is kept of the references is kept of their values
  kept_values : (l r : List R) → IsDedup eq_by cmp_by l r → (x : X) → Contains (map value r) x → IsKept eq (map value l) x
  kept_values l [] dedup x (j, within, same) = absurd (omega (arith, within))
  kept_values l (z ∷ r) dedup x (j, within, same) =
      let inside : j < length (z ∷ r) = omega (arith, within, length-map (z ∷ r) value) in
      let y = get_or (z ∷ r) j z in
      let is : value y ≡ x = sym (get_or-map value (z ∷ r) j z x inside) ∙ same in
      let kept = (dedup.kept y).0 (j, inside, get_or_default (z ∷ r) j y z inside) in (
        kept.0,
        slice_get-map value l kept.0 ∙ ap (option_map value) kept.1 ∙ ap Some is,
        λ k d low high. subst₂ (λ a b. eq a b ≡ false) (sym (get_or-map value l k y d (omega (arith, high, slice_get_within l kept.0 y kept.1)))) is (kept.2 k y low high),
      )

  values_kept : (l r : List R) → IsDedup eq_by cmp_by l r → (x : X) → IsKept eq (map value l) x → Contains (map value r) x
  values_kept l r dedup x (i, at, none) = elim (slice_get_cases l i).1 [
    | inl (y, inside, here, _) ↦
        let is : value y ≡ x = same_Some (value y) x (sym (slice_get-map value l i ∙ ap (option_map value) here) ∙ at) in
        let has = (dedup.kept y).1 (i, here, λ k d low high. subst₂ (λ a b. eq a b ≡ false) (get_or-map value l k d (value d) (omega (arith, high, inside))) (sym is) (none k (value d) low high)) in (
          has.0,
          omega (arith, has.1, length-map r value),
          get_or-map value r has.0 y x has.1 ∙ ap value has.2 ∙ is,
        )
    | inr (past, none_here) ↦
        let never : None ≡ Some x = sym (slice_get-map value l i ∙ ap (option_map value) none_here) ∙ at in
        absurd (cc)
  ]

  pub dedup_values : (l r : List R) → IsDedup eq_by cmp_by l r → IsDedup eq cmp (map value l) (map value r)
  dedup_values l r dedup = record {
    strict = strict_values r dedup.strict;
    kept = λ x. (kept_values l r dedup x, values_kept l r dedup x);
  }

-- the bytes of references are those of what they refer to
pub flat_values : (xs : List (Bor (List ℕ))) → flat_map (λ k. k.now) xs ≡ flat_map own_bytes (map (λ k. k.now) xs)
flat_values [] = refl
flat_values (x ∷ xs) = ap (λ t. x.now ++ t) (flat_values xs)

-- an item is drawn only where there is one
pub some_drawn : {R X S Made E : Type 0} (value : R → X) (steps : S → Option R → S → Type 0) (first : S) (all : List X) (r : Result Made E) → YieldsList steps value first all
    → OnErr r (TakesSome (λ given s. s ≡ given) steps first (λ (drawn : List R) ended. 1 ≤ length drawn)) → OnErr r (1 ≤ length all)
some_drawn value steps first all (Ok made) yields drawn = tt
some_drawn value steps first all (Err e) yields (s, from, ([], ended, drawn, some)) = absurd (omega (arith, some))
some_drawn value steps first [] (Err e) yields (s, from, (x ∷ xs, ended, (t, (j, step, rest), _), some)) = absurd ((YieldsList-at from yields).runs x j step)
some_drawn value steps first (y ∷ all) (Err e) yields drawn = omega arith

-- what is kept of all that an iterator gives, by what it refers to
pub dedup_of_drawn : {R X S E : Type 0} (value : R → X) (eq : X → X → Bool) (cmp : X → X → Ordering) (steps : S → Option R → S → Type 0) (first : S)
    (all : List X) (r : Result (List R) E) → YieldsList steps value first all
    → IfOk r (λ made. (s : S) × (xs : List R) × (s ≡ first) × Drains steps s xs × IsDedup (eq_by value eq cmp) (cmp_by value eq cmp) xs made)
    → IfOk r (λ made. IsDedup eq cmp all (map value made))
dedup_of_drawn value eq cmp steps first all (Ok made) yields (s, xs, from, drained, kept) =
    let drawn : map value xs ≡ all = items_from_drains xs (drained.1.0, drained.1.1, λ _. (drained.0, drained.1.2)) (YieldsList-at from yields) in
    subst (λ ys. IsDedup eq cmp ys (map value made)) drawn (dedup_values value eq cmp xs made kept)
dedup_of_drawn value eq cmp steps first all (Err e) yields h = tt

-- the set of the items of an iterator of references
pub dedup_of_items : {X E : Type 0} (eq : X → X → Bool) (cmp : X → X → Ordering) (items it : List X) (r : Result (List (Bor X)) E)
    (P : List (Bor X) → List (Bor X) → Type 0) → it ≡ items
    → IfOk r (λ made. (s : List X) × (xs : List (Bor X)) × (s ≡ it) × Drains (YieldsFirstRef (λ left. left)) s xs
    × (IsDedup (eq_by (λ k. k.now) eq cmp) (cmp_by (λ k. k.now) eq cmp) xs made × P xs made))
    → IfOk r (λ made. IsDedup eq cmp items (map (λ k. k.now) made))
dedup_of_items eq cmp items it (Ok made) P same (s, xs, from, drained, kept) =
    dedup_of_drawn {E = Unit {0}} (λ k. k.now) eq cmp (YieldsFirstRef (λ left. left)) it items (Ok made) (YieldsList-from_first (λ k. k.now) (λ left. left) items same)
    (s, xs, from, drained, kept.0)
dedup_of_items eq cmp items it (Err e) P same h = tt
