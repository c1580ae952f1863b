-- Two subsets that share too little put each participant into one of three parts.
use Rattle.std.proofs.Common.{◌≡◌, ◌⊎◌, inl, inr, ℕ, ◌+◌, ◌-◌, ◌*◌, ◌/◌, ◌≤◌, Bool, true, false, List, [], ◌∷◌}
use Rattle.std.proofs.Common.{length, replicate, sum, refl, subst, sym, ◌∙◌, arith}
use Rattle.std.proofs.lemmas.Bool.{cases_lt}
use Rattle.std.proofs.lemmas.List.{length-replicate}
use Rattle.committee_weights.specs.Searches.{AreLight, IsGreatestSafe, IsLightFrom}
use Rattle.committee_weights.specs.Weights.{weight, shared_weight, AreWeights, IsSubset}
use Rattle.committee_weights.proofs.Grouped.{shared-whole}
use Rattle.committee_weights.proofs.Safety.{safe_below, weight_tolerance}
use Rattle.committee_weights.proofs.Sharing.{some_weight, sum-cons, weight-le-shared}

-- parts that are light with more are light
pub light_before : (k : ℕ) (ws : List ℕ) (one other both f : ℕ) → IsLightFrom k ws one other both f
    → AreLight k one other both f
light_before k [] one other both f h = h
light_before k (w ∷ ws) one other both f (inl h) =
    let r = light_before k ws (one + w) other both f h in (omega (arith, r.0), r.1, r.2)
light_before k (w ∷ ws) one other both f (inr (inl h)) =
    let r = light_before k ws one (other + w) both f h in (r.0, omega (arith, r.1), r.2)
light_before k (w ∷ ws) one other both f (inr (inr h)) =
    let r = light_before k ws one other (both + w) f h in (r.0, r.1, omega (arith, r.2))

-- two subsets that weigh all but f, and share at most (k - 2)f, with what the parts weigh before
record Shares (k : ℕ) (ws : List ℕ) (one other both f : ℕ) (xs ys : List Bool) : Type 0 where
  pub first : IsSubset ws xs
  pub second : IsSubset ws ys
  pub first_weighs : other + sum ws ≤ f + weight ws xs
  pub second_weighs : one + sum ws ≤ f + weight ws ys
  pub share : both + shared_weight ws xs ys ≤ (k - 2) * f

-- light parts are such subsets
to_subsets : (k : ℕ) (ws : List ℕ) (one other both f : ℕ) → IsLightFrom k ws one other both f
    → (xs : List Bool) × (ys : List Bool) × Shares k ws one other both f xs ys
to_subsets k [] one other both f h = (
  [],
  [],
  record {
    first = omega arith;
    second = omega arith;
    first_weighs = omega (arith, h.1);
    second_weighs = omega (arith, h.0);
    share = omega (arith, h.2);
  },
)
to_subsets k (w ∷ ws) one other both f (inl h) =
    let r = to_subsets k ws (one + w) other both f h in
    let s = r.2 in (
      true ∷ r.0,
      false ∷ r.1,
      record {
        first = omega (arith, s.first);
        second = omega (arith, s.second);
        first_weighs = omega (arith, s.first_weighs, sum-cons w ws);
        second_weighs = omega (arith, s.second_weighs, sum-cons w ws);
        share = omega (arith, s.share);
      },
    )
to_subsets k (w ∷ ws) one other both f (inr (inl h)) =
    let r = to_subsets k ws one (other + w) both f h in
    let s = r.2 in (
      false ∷ r.0,
      true ∷ r.1,
      record {
        first = omega (arith, s.first);
        second = omega (arith, s.second);
        first_weighs = omega (arith, s.first_weighs, sum-cons w ws);
        second_weighs = omega (arith, s.second_weighs, sum-cons w ws);
        share = omega (arith, s.share);
      },
    )
to_subsets k (w ∷ ws) one other both f (inr (inr h)) =
    let r = to_subsets k ws one other (both + w) f h in
    let s = r.2 in (
      true ∷ r.0,
      true ∷ r.1,
      record {
        first = omega (arith, s.first);
        second = omega (arith, s.second);
        first_weighs = omega (arith, s.first_weighs, sum-cons w ws);
        second_weighs = omega (arith, s.second_weighs, sum-cons w ws);
        share = omega (arith, s.share);
      },
    )

-- and such subsets are light parts: one that is in neither goes into the first
from_subsets : (k : ℕ) (ws : List ℕ) (one other both f : ℕ) (xs ys : List Bool) → IsSubset ws xs → IsSubset ws ys
    → other + sum ws ≤ f + weight ws xs → one + sum ws ≤ f + weight ws ys
    → both + shared_weight ws xs ys ≤ (k - 2) * f → IsLightFrom k ws one other both f
from_subsets k [] one other both f xs ys l m s t u = (omega (arith, t), omega (arith, s), omega (arith, u))
from_subsets k (w ∷ ws) one other both f [] ys l m s t u = absurd (omega arith)
from_subsets k (w ∷ ws) one other both f (x ∷ xs) [] l m s t u = absurd (omega arith)
from_subsets k (w ∷ ws) one other both f (true ∷ xs) (true ∷ ys) l m s t u =
    inr (inr (from_subsets k ws one other (both + w) f xs ys (omega arith) (omega arith)
    (omega (arith, s, sum-cons w ws)) (omega (arith, t, sum-cons w ws)) (omega (arith, u))))
from_subsets k (w ∷ ws) one other both f (true ∷ xs) (false ∷ ys) l m s t u =
    inl (from_subsets k ws (one + w) other both f xs ys (omega arith) (omega arith)
    (omega (arith, s, sum-cons w ws)) (omega (arith, t, sum-cons w ws)) (omega (arith, u)))
from_subsets k (w ∷ ws) one other both f (false ∷ xs) (true ∷ ys) l m s t u =
    inr (inl (from_subsets k ws one (other + w) both f xs ys (omega arith) (omega arith)
    (omega (arith, s, sum-cons w ws)) (omega (arith, t, sum-cons w ws)) (omega (arith, u))))
from_subsets k (w ∷ ws) one other both f (false ∷ xs) (false ∷ ys) l m s t u =
    inl (from_subsets k ws (one + w) other both f xs ys (omega arith) (omega arith)
    (omega (arith, s, sum-cons w ws)) (omega (arith, t, sum-cons w ws)) (omega (arith, u)))

-- where all are outside, no one is in a subset
all_outside : (k : ℕ) (ws : List ℕ) → IsLightFrom k ws 0 0 0 (sum ws)
all_outside k ws =
    let none = replicate (length ws) false in
    from_subsets k ws 0 0 0 (sum ws) none none (length-replicate {A = Bool} (length ws) false)
    (length-replicate {A = Bool} (length ws) false) (omega arith) (omega arith)
    (omega (arith, shared-whole ws false false))

-- the least number at which parts are light is one more than the greatest that is safe
greatest_before : (k : ℕ) (ws : List ℕ) (r : ℕ) → AreWeights ws
    → (r ≡ sum ws) ⊎ IsLightFrom k ws 0 0 0 r → ((f : ℕ) → IsLightFrom k ws 0 0 0 f → r ≤ f)
    → (1 ≤ r) × IsGreatestSafe k ws (r - 1)
greatest_before k ws r are found least =
    let light = at found in
    let pair = to_subsets k ws 0 0 0 r light in
    let s = pair.2 in
    let some : 1 ≤ r = above pair.0 pair.1 s.first s.second s.first_weighs s.second_weighs s.share in (
      some,
      record {
        safe = record {
          shares = λ xs ys l m p q. elim (cases_lt (shared_weight ws xs ys) ((k - 2) * (r - 1) + 1)) [
            | inr many ↦ many
            | inl few ↦
                let under = least (r - 1) (from_subsets k ws 0 0 0 (r - 1) xs ys l m (omega arith) (omega arith) (omega arith)) in
                absurd (omega (arith, under, some))
          ];
        };
        greatest = λ g safe. elim (cases_lt g r) [
          | inl less ↦ omega arith
          | inr more ↦
              let many = (safe_below k ws g r more safe).shares pair.0 pair.1 s.first s.second
              (omega (arith, s.first_weighs)) (omega (arith, s.second_weighs)) in
              absurd (omega (arith, many, s.share))
        ];
      },
    )
  where
    at : (r ≡ sum ws) ⊎ IsLightFrom k ws 0 0 0 r → IsLightFrom k ws 0 0 0 r
    at (inl is) = subst (IsLightFrom k ws 0 0 0) (sym is) (all_outside k ws)
    at (inr light) = light

    above : (xs ys : List Bool) → IsSubset ws xs → IsSubset ws ys → 0 + sum ws ≤ r + weight ws xs
        → 0 + sum ws ≤ r + weight ws ys → 0 + shared_weight ws xs ys ≤ (k - 2) * r → 1 ≤ r
    above xs ys l m p q u =
        elim (cases_lt 0 r) [
          | inl more ↦ more
          | inr none ↦
              let is : 0 ≡ r = omega arith in
              let nothing = subst (λ n. (k - 2) * n ≡ 0) is (omega arith) in
              absurd (omega (arith, p, q, u, nothing, none, weight-le-shared ws xs ys l m, some_weight ws are))
        ]

-- the same, whatever the list and its sum are called
pub greatest_found : (k : ℕ) (us ws : List ℕ) (t r : ℕ) → us ≡ ws → t ≡ sum ws → AreWeights ws
    → (r ≡ t) ⊎ IsLightFrom k us 0 0 0 r → ((f : ℕ) → IsLightFrom k us 0 0 0 f → r ≤ f)
    → (1 ≤ r) × IsGreatestSafe k ws (r - 1)
greatest_found k us ws t r same all are found least =
    subst
    (λ (vs : List ℕ). ((r ≡ t) ⊎ IsLightFrom k vs 0 0 0 r) → ((f : ℕ) → IsLightFrom k vs 0 0 0 f → r ≤ f)
    → (1 ≤ r) × IsGreatestSafe k ws (r - 1))
    (sym same)
    (λ here each. greatest_before k ws r are (elim here [ inl is ↦ inl (is ∙ all) | inr light ↦ inr light ]) each)
    found least

-- it is no less than what is safe for all weights of the total
pub at_least_for_all : (k : ℕ) (ws : List ℕ) (f : ℕ) → 2 ≤ k → AreWeights ws → IsGreatestSafe k ws f
    → (sum ws - 1) / k ≤ f
at_least_for_all k ws f two are h =
    h.greatest ((sum ws - 1) / k) ((weight_tolerance k (sum ws) two (some_weight ws are)).greatest.safe ws refl)
