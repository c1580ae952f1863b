-- What the sizes of subsets allow, at every resilience k.
use Rattle.std.proofs.Common.{◌≡◌, inl, inr, ℕ, ◌+◌, ◌-◌, ◌*◌, ◌/◌, ◌<◌, ◌≤◌, ◌↔◌, ap, sym, ◌∙◌, subst, mul_comm, arith}
use Rattle.std.proofs.Math.Nat.{add-mul, one-mul, mul-div-le, mul-le-mul_right}
use Rattle.std.proofs.lemmas.Bool.{cases_order, cases_lt}
use Rattle.std.proofs.lemmas.Nat.{le-div}
use Rattle.commonware_faults.specs.Counts.{GreatestFit, n3f1_faults, n5f1_faults}
use Rattle.commonware_faults.specs.Subsets.{shared, places, OverlapAtLeast, GreatestFor, Greatest, Greatest3}
use Rattle.commonware_faults.specs.Subsets.{Greatest5, LeastM}
use Rattle.commonware_faults.specs.laws.SubsetLaws.{Overlap-by_size, Overlap-at_ends, Overlap-at_least}
use Rattle.commonware_faults.specs.laws.SubsetLaws.{MeetsOutside-by_thirds, LeastM-by_double}
use Rattle.commonware_faults.specs.laws.SubsetSizeLaws.{shared-places, size-le-shared}
use Rattle.commonware_faults.specs.Tolerance.{IsFaultTolerance}

-- k times g is two of them and the rest
split : (k g : ℕ) → 2 ≤ k → k * g ≡ (k - 2) * g + 2 * g
split k g two =
    let same : k ≡ k - 2 + 2 = omega arith in
    ap (λ j. j * g) same ∙ add-mul (k - 2) 2 g

-- the greatest f with kf + 1 up to n is (n - 1) / k
pub GreatestFit-by_division : (k n : ℕ) → 1 ≤ k → 1 ≤ n → GreatestFit k n ((n - 1) / k)
GreatestFit-by_division k n some_k some_n = record {
  fits = omega (arith, mul-div-le (n - 1) k);
  greatest = λ g h. le-div g (n - 1) k (omega arith) (omega (arith, h, mul_comm g k));
}

-- the greatest f by division is the greatest f by counting
pub Greatest-by_fit : (k n f : ℕ) → 2 ≤ k → GreatestFit k n f → Greatest k n f
Greatest-by_fit k n f two h = record {
  at_most = omega (arith, h.fits, split k f two);
  overlaps = Overlap-by_size n (n - f) (n - f) ((k - 2) * f + 1) (omega (arith, h.fits, split k f two));
  greatest = λ g above within o.
      let ends = Overlap-at_ends n (n - g) (n - g) ((k - 2) * g + 1) (omega arith) (omega arith) o in
      let fits : k * g + 1 ≤ n = omega (arith, ends, split k g two) in
      absurd (omega (arith, h.greatest g fits));
}

-- there is one greatest f, whatever is needed
pub GreatestFor-unique : (needed : ℕ → ℕ) (n f g : ℕ) → GreatestFor needed n f → GreatestFor needed n g → f ≡ g
GreatestFor-unique needed n f g h i =
    elim (cases_order f g) [
      | inl same ↦ same
      | inr (inl less) ↦ absurd (h.greatest g less i.at_most i.overlaps)
      | inr (inr more) ↦ absurd (i.greatest f more h.at_most h.overlaps)
    ]

-- of n positions the first and the last n - g share too few, where g is greater than the greatest f
pub Greatest-refuted : (k n f g : ℕ) → 2 ≤ k → GreatestFit k n f → f < g → g ≤ n
    → shared (places n 0 (n - g)) (places n g n) < (k - 2) * g + 1
Greatest-refuted k n f g two h above within =
    let over : n < k * g + 1 =
    elim (cases_lt n (k * g + 1)) [ inl less ↦ less | inr fits ↦ absurd (omega (arith, h.greatest g fits)) ] in
    omega (arith, shared-places n 0 (n - g) g n, over, split k g two)

-- where quorums have to share, there is a participant
some_from_greatest : (k n f : ℕ) → Greatest k n f → 1 ≤ n
some_from_greatest k n f h =
    omega (arith, Overlap-at_ends n (n - f) (n - f) ((k - 2) * f + 1) (omega arith) (omega arith) h.overlaps)

-- the greatest f by counting is (n - 1) / k
pub Greatest-only : (k n f : ℕ) → 2 ≤ k → Greatest k n f → f ≡ (n - 1) / k
Greatest-only k n f two h =
    let fit = GreatestFit-by_division k n (omega arith) (some_from_greatest k n f h) in
    GreatestFor-unique (λ g. (k - 2) * g + 1) n f ((n - 1) / k) h (Greatest-by_fit k n ((n - 1) / k) two fit)

-- and the greatest by division
pub Greatest-fit : (k n f : ℕ) → 2 ≤ k → Greatest k n f → GreatestFit k n f
Greatest-fit k n f two h =
    subst (GreatestFit k n) (sym (Greatest-only k n f two h))
    (GreatestFit-by_division k n (omega arith) (some_from_greatest k n f h))

-- (n - 1) / k is the greatest f by counting
pub greatest_at : (k n : ℕ) → 2 ≤ k → 1 ≤ n → Greatest k n ((n - 1) / k)
greatest_at k n two some = Greatest-by_fit k n ((n - 1) / k) two (GreatestFit-by_division k n (omega arith) some)

-- whatever f is, two subsets of at least n - f share n - 2f
pub quorums_share : (n f : ℕ) → OverlapAtLeast n (n - f) (n - f) (n - 2 * f)
quorums_share n f = record { shares = λ xs ys l m s t. omega (arith, size-le-shared xs ys (l ∙ sym m)) }

-- 2f + 1 is the least m, and the only one, exactly where it is up to n
pub LeastM-is : (n f m : ℕ) → LeastM n f m ↔ ((m ≡ 2 * f + 1) × (2 * f + 1 ≤ n))
LeastM-is n f m = (
  λ h.
      let ends = Overlap-at_ends n (n - f) m (f + 1) (omega arith) h.at_most h.overlaps in
      let low : 2 * f + 1 ≤ m = omega (arith, ends, h.at_most) in
      let within : 2 * f + 1 ≤ n = omega (arith, low, h.at_most) in
      let same : m ≡ 2 * f + 1 =
      elim (cases_lt (2 * f + 1) m) [
        | inl less ↦ absurd (h.least (2 * f + 1) less (LeastM-by_double n f within).overlaps)
        | inr most ↦ omega arith
      ] in
      (same, within),
  λ h. subst (LeastM n f) (sym h.0) (LeastM-by_double n f h.1),
)

-- All of it, at every k from 2 on and every n from 1 on.
pub fault_tolerance : (k n : ℕ) → 2 ≤ k → 1 ≤ n → IsFaultTolerance k n ((n - 1) / k)
fault_tolerance k n two some =
    let f = (n - 1) / k in
    let fit = GreatestFit-by_division k n (omega arith) some in
    let most = Greatest-by_fit k n f two fit in
    let double : 2 * f + 1 ≤ n = omega (arith, fit.fits, split k f two) in
    record {
      fits = fit;
      greatest = most;
      only = λ g h. Greatest-only k n g two h;
      refuted = λ g above within. Greatest-refuted k n f g two fit above within;
      least_shared = omega (arith, fit.fits, split k f two);
      shares = Overlap-at_least n (n - f) (n - f) ((k - 2) * f + 1) (omega arith) (omega arith) most.overlaps;
      meets = λ three. MeetsOutside-by_thirds n f (omega (arith, fit.fits, mul-le-mul_right f three));
      least_m = LeastM-by_double n f double;
    }

-- the same of a number that is (n - 1) / k
pub fault_tolerance_of : (k n f : ℕ) → 2 ≤ k → 1 ≤ n → f ≡ (n - 1) / k → IsFaultTolerance k n f
fault_tolerance_of k n f two some same = subst (IsFaultTolerance k n) (sym same) (fault_tolerance k n two some)

-- at three, with the factor 1 left out
pub Greatest3-by_any : (n f : ℕ) → Greatest 3 n f → Greatest3 n f
Greatest3-by_any n f = subst (λ (needed : ℕ → ℕ). GreatestFor needed n f) (λ i g. one-mul g i + 1)

-- and back
pub Greatest-three : (n f : ℕ) → Greatest3 n f → Greatest 3 n f
Greatest-three n f = subst (λ (needed : ℕ → ℕ). GreatestFor needed n f) (sym (λ i g. one-mul g i + 1))

-- the number of `N3f1` is the greatest f
pub n3f1_greatest : (n : ℕ) → 1 ≤ n → Greatest3 n (n3f1_faults n)
n3f1_greatest n some = Greatest3-by_any n (n3f1_faults n) (greatest_at 3 n (omega arith) some)

-- the number of `N5f1` is the greatest f
pub n5f1_greatest : (n : ℕ) → 1 ≤ n → Greatest5 n (n5f1_faults n)
n5f1_greatest n some = greatest_at 5 n (omega arith) some

-- the smaller quorum of `N5f1` is the least m
pub n5f1_least_m : (n : ℕ) → 1 ≤ n → LeastM n (n5f1_faults n) (2 * n5f1_faults n + 1)
n5f1_least_m n some = (fault_tolerance 5 n (omega arith) some).least_m
