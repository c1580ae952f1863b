-- What a walk along two strictly increasing lists keeps: those of the first that are among the second.
use Rattle.std.proofs.Common.{◌≡◌, ◌≢◌, ◌⊎◌, ◌||◌, inl, inr, eqb, ℕ, suc, ◌+◌, ◌<◌, ◌≤◌, Bool, true, false, cond, ◌&&◌}
use Rattle.std.proofs.Common.{List, [], ◌∷◌, ◌++◌, append-nil, append_assoc, drop, filter, length, get_or}
use Rattle.std.proofs.Common.{refl, ap, subst, sym, ◌∙◌, arith}
use Rattle.std.proofs.Math.Seq.{drop-cons}
use Rattle.std.proofs.lemmas.Bool.Decides.{eqb_tells}
use Rattle.std.proofs.lemmas.Cmp.{nat_cmp_total}
use Rattle.std.proofs.lemmas.List.Kept.{IsStrictlyIncreasing-filter}
use Rattle.std.proofs.lemmas.List.{drop_all}
use Rattle.std.proofs.lemmas.Map.Keys.{IsStrictlyIncreasing-from_sorted, Less-from_sorted}
use Rattle.std.proofs.lemmas.Map.Keys.{sorted_from_strictly_increasing}
use Rattle.std.specs.Ordering.{nat_cmp}
use Rattle.commonware_ordered.specs.Strict.{IsStrict}
use Rattle.commonware_ordered.specs.laws.StrictLaws.{sorted_from_strict}
use Rattle.commonware_ordered.specs.Voters.{is_among}
use Rattle.commonware_ordered.specs.laws.PlaceLaws.{among_iff}
use Rattle.commonware_ordered.specs.laws.PositionLaws.{RisesFrom, among_after, among_first, not_among_below}
use Rattle.commonware_ordered.specs.laws.PositionLaws.{rises_from_strict, rises_lower}
use Rattle.committee_certificates.specs.laws.SignerLaws.{tells_both}
use Rattle.committee_certificates.specs.Signers.{AreInBoth}

-- `and` with a test that fails
and_false : (b : Bool) → (b && false) ≡ false
and_false true = refl
and_false false = refl

-- those of the first that are among the second
abbrev pub common : List ℕ → List ℕ → List ℕ
common xs ys = filter (is_among ys) xs

-- tests that agree from low on keep the same of numbers that strictly increase from low on
filter_agree : (p q : ℕ → Bool) (low : ℕ) (xs : List ℕ) → RisesFrom low xs → ((k : ℕ) → low ≤ k → p k ≡ q k)
    → filter p xs ≡ filter q xs
filter_agree p q low [] r same = refl
filter_agree p q low (x ∷ xs) r same =
    let rest = filter_agree p q (x + 1) xs r.1 (λ k h. same k (omega arith)) in
    let here = same x r.0 in
    rw (rest, here) refl

-- a first number below the first of the others is in none of them
pub common_less : (x y : ℕ) (xs ys : List ℕ) → x < y → RisesFrom 0 (y ∷ ys) → common (x ∷ xs) (y ∷ ys) ≡ common xs (y ∷ ys)
common_less x y xs ys h r =
    let none : is_among (y ∷ ys) x ≡ false = not_among_below y (y ∷ ys) x h (omega arith, r.1) in
    rw none refl

-- the first of the others is in none where it is below the first number
pub common_greater : (x y : ℕ) (xs ys : List ℕ) → y < x → RisesFrom 0 (x ∷ xs)
    → common (x ∷ xs) (y ∷ ys) ≡ common (x ∷ xs) ys
common_greater x y xs ys h r =
    filter_agree (is_among (y ∷ ys)) (is_among ys) x (x ∷ xs) (omega arith, r.1) (λ k above. among_after y ys k (omega arith))

-- a first number that both have
pub common_equal : (x : ℕ) (xs ys : List ℕ) → RisesFrom 0 (x ∷ xs) → common (x ∷ xs) (x ∷ ys) ≡ x ∷ common xs ys
common_equal x xs ys r =
    let here = among_first x ys in
    let rest : filter (is_among (x ∷ ys)) xs ≡ filter (is_among ys) xs =
    filter_agree (is_among (x ∷ ys)) (is_among ys) (x + 1) xs r.1 (λ k above. among_after x ys k (omega arith)) in
    rw (here, rest) refl

-- nothing is in an empty list
pub common_none : (xs : List ℕ) → common xs [] ≡ []
common_none [] = refl
common_none (x ∷ xs) = common_none xs

-- what is left from a position on is the number there and what follows
opened : (xs : List ℕ) (i x : ℕ) → i < length xs → x ≡ get_or xs i x → drop i xs ≡ x ∷ drop (i + 1) xs
opened xs i x h e =
    let next : suc i ≡ i + 1 = omega arith in
    subst (λ k. drop i xs ≡ x ∷ drop k xs) next (drop-cons xs i x h ∙ ap (λ z. z ∷ drop (suc i) xs) (sym e))

-- After i numbers of the first list and j of the second, what is kept, and what both lists have left, are all that both
-- have.
pub record IsWalked (first second : List ℕ) (i j : ℕ) (kept : List ℕ) : Type 0 where
  pub first_rises : RisesFrom 0 (drop i first)
  pub second_rises : RisesFrom 0 (drop j second)
  pub same : kept ++ common (drop i first) (drop j second) ≡ common first second

-- where one list is walked through, what is kept is what both have
pub walk_end : {first second kept : List ℕ} {i j : ℕ} → (length first ≤ i) ⊎ (length second ≤ j)
    → IsWalked first second i j kept → kept ≡ common first second
walk_end {first} {second} {kept} {i} {j} (inl h) w =
    let none : drop i first ≡ [] = drop_all i first h in
    sym (append-nil kept) ∙ subst (λ l. kept ++ common l (drop j second) ≡ common first second) none w.same
walk_end {first} {second} {kept} {i} {j} (inr h) w =
    let none : drop j second ≡ [] = drop_all j second h in
    sym (append-nil kept) ∙ ap (λ l. kept ++ l) (sym (common_none (drop i first)))
    ∙ subst (λ l. kept ++ common (drop i first) l ≡ common first second) none w.same

-- no number is walked past yet
pub walk_start : (first second : List ℕ) → IsStrict nat_cmp first → IsStrict nat_cmp second
    → IsWalked first second 0 0 []
walk_start first second s t = record {
  first_rises = rises_from_strict first s;
  second_rises = rises_from_strict second t;
  same = refl;
}

module _ {first second kept : List ℕ} {i j x y : ℕ} (x_in : i < length first) (y_in : j < length second)
    (x_is : x ≡ get_or first i x) (y_is : y ≡ get_or second j y) (w : IsWalked first second i j kept) where
  -- the numbers left
  left : drop i first ≡ x ∷ drop (i + 1) first
  left = opened first i x x_in x_is

  -- and those of the other list
  others : drop j second ≡ y ∷ drop (j + 1) second
  others = opened second j y y_in y_is

  -- the numbers left are strictly increasing
  left_rises : RisesFrom 0 (x ∷ drop (i + 1) first)
  left_rises = subst (RisesFrom 0) left w.first_rises

  -- and so are the others
  others_rise : RisesFrom 0 (y ∷ drop (j + 1) second)
  others_rise = subst (RisesFrom 0) others w.second_rises

  -- what is left of both, with its first numbers
  same : kept ++ common (x ∷ drop (i + 1) first) (y ∷ drop (j + 1) second) ≡ common first second
  same =
      let second_opened = subst (λ l. kept ++ common (drop i first) l ≡ common first second) others w.same in
      subst (λ l. kept ++ common l (y ∷ drop (j + 1) second) ≡ common first second) left second_opened

  -- a step of the walk, where the number is less than the other
  pub walk_less : x < y → IsWalked first second (i + 1) j kept
  walk_less h = record {
    first_rises = rises_lower (x + 1) 0 (drop (i + 1) first) (omega arith) left_rises.1;
    second_rises = w.second_rises;
    same =
        let less = common_less x y (drop (i + 1) first) (drop (j + 1) second) h others_rise in
        let kept_same = ap (λ l. kept ++ l) (sym less) ∙ same in
        subst (λ l. kept ++ common (drop (i + 1) first) l ≡ common first second) (sym others) kept_same;
  }

  -- where it is greater
  pub walk_greater : y < x → IsWalked first second i (j + 1) kept
  walk_greater h = record {
    first_rises = w.first_rises;
    second_rises = rises_lower (y + 1) 0 (drop (j + 1) second) (omega arith) others_rise.1;
    same =
        let greater = common_greater x y (drop (i + 1) first) (drop (j + 1) second) h left_rises in
        let kept_same = ap (λ l. kept ++ l) (sym greater) ∙ same in
        subst (λ l. kept ++ common l (drop (j + 1) second) ≡ common first second) (sym left) kept_same;
  }

  -- where both are the same
  pub walk_equal : x ≡ y → IsWalked first second (i + 1) (j + 1) (kept ++ x ∷ [])
  walk_equal h = record {
    first_rises = rises_lower (x + 1) 0 (drop (i + 1) first) (omega arith) left_rises.1;
    second_rises = rises_lower (y + 1) 0 (drop (j + 1) second) (omega arith) others_rise.1;
    same =
        let xs = drop (i + 1) first in
        let ys = drop (j + 1) second in
        let equal : kept ++ common (x ∷ xs) (x ∷ ys) ≡ common first second =
        subst (λ z. kept ++ common (x ∷ xs) (z ∷ ys) ≡ common first second) (sym h) same in
        append_assoc kept (x ∷ []) (common xs ys)
        ∙ ap (λ l. kept ++ l) (sym (common_equal x xs ys left_rises)) ∙ equal;
  }

-- whether a position is among those that pass a test
among-filter : (test : ℕ → Bool) (xs : List ℕ) (p : ℕ) → is_among (filter test xs) p ≡ (is_among xs p && test p)
among-filter test [] p = refl
among-filter test (x ∷ xs) p = step (test x) refl (eqb_tells x p) (among-filter test xs p)
  where
    step : (b : Bool) → test x ≡ b → ((eqb x p ≡ true) × (x ≡ p)) ⊎ ((eqb x p ≡ false) × (x ≢ p))
        → is_among (filter test xs) p ≡ (is_among xs p && test p)
        → is_among (cond b (x ∷ filter test xs) (filter test xs)) p ≡ ((eqb x p || is_among xs p) && test p)
    step true e (inl same) h = let t = subst (λ y. test y ≡ true) same.1 e in simp (same.0, t)
    step true e (inr other) h = simp other.0 h
    step false e (inl same) h = let t = subst (λ y. test y ≡ false) same.1 e in simp (h, t, and_false)
    step false e (inr other) h = simp other.0 h

-- what both of two strictly increasing lists have is strictly increasing, and exactly what is in both
pub AreInBoth-common : (first second : List ℕ) → IsStrict nat_cmp first → AreInBoth first second (common first second)
AreInBoth-common first second strict = record {
  strict =
      let rising = IsStrictlyIncreasing-from_sorted first (sorted_from_strict nat_cmp_total first strict) in
      let kept_rising = IsStrictlyIncreasing-filter (is_among second) first rising in
      let sorted = sorted_from_strictly_increasing (common first second) kept_rising in
      λ k d high. Less-from_sorted nat_cmp (common first second) k (k + 1) d sorted (omega arith) high;
  exactly = λ p.
      let e = among-filter (is_among second) first p in
      let tells = among_iff (common first second) p in
      let both = tells_both _ _ _ _ (among_iff first p) (among_iff second p) in
      (λ w. both.0 (sym e ∙ tells.1 w), λ w. tells.0 (e ∙ both.1 w));
}
