-- Which numbers are safe for all weights of a total.
use Rattle.std.proofs.Common.{◌≡◌, inl, inr, ℕ, zero, suc, ◌+◌, ◌-◌, ◌*◌, ◌/◌, ◌<◌, ◌≤◌, ◌↔◌, Bool, true, false, List}
use Rattle.std.proofs.Common.{[], ◌∷◌, length, sum, replicate, refl, sym, ◌∙◌, subst, arith}
use Rattle.std.proofs.Math.Nat.{mul-le-mul_left, mul-le-mul_right}
use Rattle.std.proofs.lemmas.Bool.{cases_lt}
use Rattle.std.proofs.lemmas.List.{length-replicate}
use Rattle.std.proofs.lemmas.List.Folds.{sum_by-replicate}
use Rattle.commonware_faults.specs.Counts.{GreatestFit}
use Rattle.commonware_faults.specs.Subsets.{size, shared, Greatest, Overlap, OverlapAtLeast}
use Rattle.commonware_faults.specs.laws.SubsetLaws.{LeastM-by_double, Overlap-at_ends}
use Rattle.commonware_faults.specs.laws.ToleranceLaws.{GreatestFit-by_division, Greatest-by_fit, Greatest-fit}
use Rattle.committee_weights.specs.Weights.{AreWeights, weight, shared_weight, IsSafe, WeightedOverlap}
use Rattle.committee_weights.specs.Weights.{WeightedMeetsOutside, WeightedOverlapOf}
use Rattle.committee_weights.specs.Tolerance.{GreatestSafe, IsWeightTolerance, LeastSafeM}
use Rattle.committee_weights.proofs.Refuting.{split, refuted_at, Positive, all_positive}
use Rattle.committee_weights.proofs.Sharing.{weight-le-shared, meets-by_thirds}

-- where kf + 1 is up to all, f is safe
pub safe-by_fit : (k : ℕ) (ws : List ℕ) (f : ℕ) → 2 ≤ k → k * f + 1 ≤ sum ws → IsSafe k ws f
safe-by_fit k ws f two fits = record {
  shares = λ xs ys l m s t. omega (arith, weight-le-shared ws xs ys l m, split k f two);
}

-- what is below a safe number is safe
pub safe_below : (k : ℕ) (ws : List ℕ) (f g : ℕ) → g ≤ f → IsSafe k ws f → IsSafe k ws g
safe_below k ws f g below h = record {
  shares = λ xs ys l m s t.
      let many = h.shares xs ys l m (omega arith) (omega arith) in
      omega (arith, many, mul-le-mul_left (k - 2) below);
}

-- where each weighs 1, subsets weigh their sizes
pub weight-ones : (n : ℕ) (xs : List Bool) → length xs ≡ n → weight (replicate n 1) xs ≡ size xs
weight-ones zero [] l = refl
weight-ones zero (x ∷ xs) l = absurd (omega arith)
weight-ones (suc n) [] l = absurd (omega arith)
weight-ones (suc n) (true ∷ xs) l = omega (arith, weight-ones n xs (omega arith))
weight-ones (suc n) (false ∷ xs) l = weight-ones n xs (omega arith)

-- and share what they share by counting
pub shared-ones : (n : ℕ) (xs ys : List Bool) → length xs ≡ n → length ys ≡ n
    → shared_weight (replicate n 1) xs ys ≡ shared xs ys
shared-ones zero [] ys l m = refl
shared-ones zero (x ∷ xs) ys l m = absurd (omega arith)
shared-ones (suc n) [] ys l m = absurd (omega arith)
shared-ones (suc n) (x ∷ xs) [] l m = absurd (omega arith)
shared-ones (suc n) (true ∷ xs) (true ∷ ys) l m = omega (arith, shared-ones n xs ys (omega arith) (omega arith))
shared-ones (suc n) (true ∷ xs) (false ∷ ys) l m = shared-ones n xs ys (omega arith) (omega arith)
shared-ones (suc n) (false ∷ xs) (true ∷ ys) l m = shared-ones n xs ys (omega arith) (omega arith)
shared-ones (suc n) (false ∷ xs) (false ∷ ys) l m = shared-ones n xs ys (omega arith) (omega arith)

-- n of them weigh n
pub sum-ones : (n : ℕ) → sum (replicate n 1) ≡ n
sum-ones n = omega (arith, sum_by-replicate {X = ℕ} (λ x. x) n 1)

-- so overlap is overlap by counting
pub overlap-ones : (n q s : ℕ) → WeightedOverlap (replicate n 1) q s ↔ OverlapAtLeast n q q s
overlap-ones n q s = (
  λ h. record {
    shares = λ xs ys l m a b.
        let many = h.shares xs ys (l ∙ sym (length-replicate n 1)) (m ∙ sym (length-replicate n 1))
        (omega (arith, weight-ones n xs l)) (omega (arith, weight-ones n ys m)) in
        omega (arith, many, shared-ones n xs ys l m);
  },
  λ h. record {
    shares = λ xs ys l m a b.
        let first = l ∙ length-replicate n 1 in
        let second = m ∙ length-replicate n 1 in
        let many = h.shares xs ys first second
        (omega (arith, weight-ones n xs first)) (omega (arith, weight-ones n ys second)) in
        omega (arith, many, shared-ones n xs ys first second);
  },
)

-- they are weights
ones_positive : (n : ℕ) → Positive (replicate n 1)
ones_positive zero = tt
ones_positive (suc n) = (omega arith, ones_positive n)

-- where there is one
pub ones_are_weights : (n : ℕ) → 1 ≤ n → AreWeights (replicate n 1)
ones_are_weights n some = record {
  some = omega (arith, length-replicate {A = ℕ} n 1);
  positive = all_positive (replicate n 1) (ones_positive n);
}

-- where kg + 1 is more than n, g isn't safe for n participants that weigh 1 each, by counting
pub unsafe-ones : (k n g : ℕ) → 2 ≤ k → n < k * g + 1 → ¬ IsSafe k (replicate n 1) g
unsafe-ones k n g two over h =
    let needed = (k - 2) * g + 1 in
    let counted = (overlap-ones n (n - g) needed).0
    (subst (λ (m : ℕ). WeightedOverlap (replicate n 1) (m - g) needed) (sum-ones n) h) in
    let exact : Overlap n (n - g) (n - g) needed = record {
      shares = λ xs ys l m a b. counted.shares xs ys l m (omega arith) (omega arith);
    } in
    let ends = Overlap-at_ends n (n - g) (n - g) needed (omega arith) (omega arith) exact in
    omega (arith, ends, over, split k g two)

-- what is more than the greatest that fits doesn't fit
pub over_greatest : (k n f g : ℕ) → GreatestFit k n f → f < g → n < k * g + 1
over_greatest k n f g h above =
    elim (cases_lt n (k * g + 1)) [ inl less ↦ less | inr fits ↦ absurd (omega (arith, h.greatest g fits)) ]

-- the greatest by division is the greatest that is safe
pub GreatestSafe-by_fit : (k total f : ℕ) → 2 ≤ k → GreatestFit k total f → GreatestSafe k total f
GreatestSafe-by_fit k total f two h = record {
  safe = λ ws e. safe-by_fit k ws f two (omega (arith, h.fits, e));
  greatest = λ g all.
      elim (cases_lt f g) [
        | inl above ↦
            let safe = all (replicate total 1) (ones_are_weights total (omega (arith, h.fits))) (sum-ones total) in
            absurd (unsafe-ones k total g two (over_greatest k total f g h above) safe)
        | inr most ↦ most
      ];
}

-- where a number is safe for all weights of a total, the total isn't 0
some_from_safe : (k total f : ℕ) → ((ws : List ℕ) → sum ws ≡ total → IsSafe k ws f) → 1 ≤ total
some_from_safe k zero f safe = let none = (safe [] refl).shares [] [] refl refl (omega arith) (omega arith) in omega arith
some_from_safe k (suc total) f safe = omega arith

-- the greatest that is safe is (total - 1) / k
pub GreatestSafe-only : (k total f : ℕ) → 2 ≤ k → GreatestSafe k total f → f ≡ (total - 1) / k
GreatestSafe-only k total f two h =
    let some = some_from_safe k total f h.safe in
    let other =
    GreatestSafe-by_fit k total ((total - 1) / k) two (GreatestFit-by_division k total (omega arith) some) in
    let low = h.greatest ((total - 1) / k) (λ ws w e. other.safe ws e) in
    let high = other.greatest f (λ ws w e. h.safe ws e) in
    omega (arith, low, high)

-- so it is the greatest by division
pub GreatestSafe-fit : (k total f : ℕ) → 2 ≤ k → GreatestSafe k total f → GreatestFit k total f
GreatestSafe-fit k total f two h =
    subst (GreatestFit k total) (sym (GreatestSafe-only k total f two h))
    (GreatestFit-by_division k total (omega arith) (some_from_safe k total f h.safe))

-- and the greatest by counting as many participants
pub GreatestSafe-counts : (k n f : ℕ) → 2 ≤ k → GreatestSafe k n f ↔ Greatest k n f
GreatestSafe-counts k n f two = (
  λ h. Greatest-by_fit k n f two (GreatestSafe-fit k n f two h),
  λ h. GreatestSafe-by_fit k n f two (Greatest-fit k n f two h),
)

-- the weight that some weigh and others by counting
overlap_of_ones : (n a b s : ℕ) → WeightedOverlapOf (replicate n 1) a b s → Overlap n a b s
overlap_of_ones n a b s h = record {
  shares = λ xs ys l m e f.
      let many = h.shares xs ys (l ∙ sym (length-replicate n 1)) (m ∙ sym (length-replicate n 1))
      (omega (arith, weight-ones n xs l)) (omega (arith, weight-ones n ys m)) in
      omega (arith, many, shared-ones n xs ys l m);
}

-- twice f and one more is the least m
LeastSafeM-by_double : (total f : ℕ) → 2 * f + 1 ≤ total → LeastSafeM total f (2 * f + 1)
LeastSafeM-by_double total f low = record {
  at_most = low;
  overlaps = λ ws e. record { shares = λ xs ys l m s t. omega (arith, weight-le-shared ws xs ys l m, e) };
  least = λ j all.
      elim (cases_lt j (2 * f + 1)) [
        | inl less ↦
            let ones = all (replicate total 1) (ones_are_weights total (omega arith)) (sum-ones total) in
            let counted = overlap_of_ones total (total - f) j (f + 1) ones in
            absurd ((LeastM-by_double total f low).least j less counted)
        | inr most ↦ most
      ];
}

-- all of it, at every k from 2 on and every total from 1 on
pub weight_tolerance : (k total : ℕ) → 2 ≤ k → 1 ≤ total → IsWeightTolerance k total ((total - 1) / k)
weight_tolerance k total two some =
    let f = (total - 1) / k in
    let fit = GreatestFit-by_division k total (omega arith) some in
    record {
      fits = fit;
      greatest = GreatestSafe-by_fit k total f two fit;
      only = λ g h. GreatestSafe-only k total g two h;
      refuted = λ g n above three within.
          refuted_at k total g n two (omega arith) (over_greatest k total f g fit above) three within;
      refuted_by_ones = λ g above. unsafe-ones k total g two (over_greatest k total f g fit above);
      least_shared = omega (arith, fit.fits, split k f two);
      meets = λ three ws e.
          let thirds : 3 * f + 1 ≤ sum ws = omega (arith, fit.fits, mul-le-mul_right f three, e) in
          subst (λ (m : ℕ). WeightedMeetsOutside ws (m - f) f) e (meets-by_thirds ws f thirds);
      least_m = LeastSafeM-by_double total f (omega (arith, fit.fits, split k f two));
    }

-- what is all but at most 2f is at least (k - 2)f + 1
pub enough : (k total many : ℕ) → 2 ≤ k → 1 ≤ total → total ≤ 2 * ((total - 1) / k) + many
    → (k - 2) * ((total - 1) / k) + 1 ≤ many
enough k total many two some h =
    let fit = GreatestFit-by_division k total (omega arith) some in
    omega (arith, fit.fits, split k ((total - 1) / k) two, h)

-- which is more than f at a k of 3 or more
pub more_than_f : (k f many : ℕ) → 3 ≤ k → (k - 2) * f + 1 ≤ many → f < many
more_than_f k f many three h =
    let some : 1 ≤ k - 2 = omega arith in
    omega (arith, mul-le-mul_right f some, h)
