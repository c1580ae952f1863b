-- Weights of a total, of any number of participants from 3 on, for which a number isn't safe.
use Rattle.std.proofs.Common.{◌≡◌, inl, inr, ℕ, zero, suc, ◌+◌, ◌-◌, ◌*◌, ◌<◌, ◌≤◌, Bool, true, false, cond, ◌&&◌, List, [], ◌∷◌}
use Rattle.std.proofs.Common.{length, sum, refl, ap, ◌∙◌, subst, arith}
use Rattle.std.proofs.Math.Nat.{add-mul}
use Rattle.std.specs.Prelude.{All}
use Rattle.std.proofs.lemmas.Bool.{cases_lt}
use Rattle.std.proofs.lemmas.List.Elements.{All-cons}
use Rattle.committee_weights.specs.Weights.{weight, shared_weight}
use Rattle.committee_weights.specs.Tolerance.{IsRefutation}
use Rattle.committee_weights.proofs.Sharing.{sum-cons, weight-cons, shared_weight-cons}

-- k times g is two of them and the rest
pub split : (k g : ℕ) → 2 ≤ k → k * g ≡ (k - 2) * g + 2 * g
split k g two =
    let same : k ≡ k - 2 + 2 = omega arith in
    ap (λ j. j * g) same ∙ add-mul (k - 2) 2 g

-- none is 0
abbrev pub Positive : List ℕ → Type 0
Positive [] = Unit {0}
Positive (w ∷ ws) = (1 ≤ w) × Positive ws

-- so they are weights, where there are some
pub all_positive : (ws : List ℕ) → Positive ws → All (λ w. 1 ≤ w) ws
all_positive [] h = λ k d below. absurd (omega arith)
all_positive (w ∷ ws) h = All-cons (λ v. 1 ≤ v) w ws h.0 (all_positive ws h.1)

-- Weights with two subsets, and the same where one weight is two: no sum changes.
pub record IsSplit (ws : List ℕ) (xs ys : List Bool) (us : List ℕ) (vs ts : List Bool) : Type 0 where
  pub positive : Positive us
  pub one_more : length us ≡ suc (length ws)
  pub same_total : sum us ≡ sum ws
  pub first : length vs ≡ length us
  pub second : length ts ≡ length us
  pub first_weighs : weight us vs ≡ weight ws xs
  pub second_weighs : weight us ts ≡ weight ws ys
  pub share : shared_weight us vs ts ≡ shared_weight ws xs ys

-- a weight of 2 or more is a 1 and the rest
halves : (b : Bool) (w : ℕ) → 2 ≤ w → cond b 1 0 + cond b (w - 1) 0 ≡ cond b w 0
halves true w h = omega arith
halves false w h = omega arith

-- the first weight is two
split_here : (w : ℕ) (ws : List ℕ) (x y : Bool) (xs ys : List Bool) → 2 ≤ w → Positive ws
    → length xs ≡ length ws → length ys ≡ length ws
    → IsSplit (w ∷ ws) (x ∷ xs) (y ∷ ys) (1 ∷ (w - 1) ∷ ws) (x ∷ x ∷ xs) (y ∷ y ∷ ys)
split_here w ws x y xs ys two rest l m = record {
  positive = (omega arith, (omega arith, rest));
  one_more = refl;
  same_total = omega (arith, sum-cons 1 ((w - 1) ∷ ws), sum-cons (w - 1) ws, sum-cons w ws);
  first = omega arith;
  second = omega arith;
  first_weighs =
      omega (arith, weight-cons 1 ((w - 1) ∷ ws) x (x ∷ xs), weight-cons (w - 1) ws x xs, weight-cons w ws x xs, halves x w two);
  second_weighs =
      omega (arith, weight-cons 1 ((w - 1) ∷ ws) y (y ∷ ys), weight-cons (w - 1) ws y ys, weight-cons w ws y ys, halves y w two);
  share =
      omega (
        arith,
        shared_weight-cons 1 ((w - 1) ∷ ws) x y (x ∷ xs) (y ∷ ys),
        shared_weight-cons (w - 1) ws x y xs ys,
        shared_weight-cons w ws x y xs ys,
        halves (x && y) w two,
      );
}

-- a later weight is two
split_later : (w : ℕ) (x y : Bool) (ws : List ℕ) (xs ys : List Bool) (us : List ℕ) (vs ts : List Bool) → 1 ≤ w
    → IsSplit ws xs ys us vs ts → IsSplit (w ∷ ws) (x ∷ xs) (y ∷ ys) (w ∷ us) (x ∷ vs) (y ∷ ts)
split_later w x y ws xs ys us vs ts some h = record {
  positive = (some, h.positive);
  one_more = omega (arith, h.one_more);
  same_total = omega (arith, sum-cons w us, sum-cons w ws, h.same_total);
  first = omega (arith, h.first);
  second = omega (arith, h.second);
  first_weighs = omega (arith, weight-cons w us x vs, weight-cons w ws x xs, h.first_weighs);
  second_weighs = omega (arith, weight-cons w us y ts, weight-cons w ws y ys, h.second_weighs);
  share = omega (arith, shared_weight-cons w us x y vs ts, shared_weight-cons w ws x y xs ys, h.share);
}

-- where all weigh more than their number, one weight can be two
split_one : (ws : List ℕ) (xs ys : List Bool) → Positive ws → length xs ≡ length ws → length ys ≡ length ws
    → length ws < sum ws → (us : List ℕ) × (vs : List Bool) × (ts : List Bool) × IsSplit ws xs ys us vs ts
split_one [] xs ys p l m h = absurd (omega arith)
split_one (w ∷ ws) [] ys p l m h = absurd (omega arith)
split_one (w ∷ ws) (x ∷ xs) [] p l m h = absurd (omega arith)
split_one (w ∷ ws) (x ∷ xs) (y ∷ ys) p l m h =
    elim (cases_lt 1 w) [
      | inl more ↦
          (1 ∷ (w - 1) ∷ ws, x ∷ x ∷ xs, y ∷ y ∷ ys, split_here w ws x y xs ys more p.1 (omega arith) (omega arith))
      | inr single ↦
          let less : length ws < sum ws = omega (arith, sum-cons w ws) in
          let r = split_one ws xs ys p.1 (omega arith) (omega arith) less in
          (w ∷ r.0, x ∷ r.1, y ∷ r.2, split_later w x y ws xs ys r.0 r.1 r.2 p.0 r.3)
    ]

-- n weights of a total, and two subsets of all but at most g that share too little
pub record Refutes (total g needed n : ℕ) (ws : List ℕ) (xs ys : List Bool) : Type 0 where
  pub positive : Positive ws
  pub participants : length ws ≡ n
  pub of_total : sum ws ≡ total
  pub first : length xs ≡ length ws
  pub second : length ys ≡ length ws
  pub first_weighs : total - g ≤ weight ws xs
  pub second_weighs : total - g ≤ weight ws ys
  pub too_little : shared_weight ws xs ys < needed

-- such weights and subsets
abbrev pub Refuted : ℕ → ℕ → ℕ → ℕ → Type 0
Refuted total g needed n = (ws : List ℕ) × (xs : List Bool) × (ys : List Bool) × Refutes total g needed n ws xs ys

-- one participant more
one_more : (total g needed n : ℕ) → n < total → Refuted total g needed n → Refuted total g needed (suc n)
one_more total g needed n less r =
    let h = r.3 in
    let u = split_one r.0 r.1 r.2 h.positive h.first h.second (omega (arith, h.participants, h.of_total)) in
    let s = u.3 in (
      u.0,
      u.1,
      u.2,
      record {
        positive = s.positive;
        participants = omega (arith, s.one_more, h.participants);
        of_total = s.same_total ∙ h.of_total;
        first = s.first;
        second = s.second;
        first_weighs = omega (arith, s.first_weighs, h.first_weighs);
        second_weighs = omega (arith, s.second_weighs, h.second_weighs);
        too_little = omega (arith, s.share, h.too_little);
      },
    )

-- and any number more, up to the total
more : (total g needed n d : ℕ) → n + d ≤ total → Refuted total g needed n → Refuted total g needed (n + d)
more total g needed n zero within r =
    let same : n ≡ n + 0 = omega arith in
    subst (Refuted total g needed) same r
more total g needed n (suc d) within r =
    let same : suc n + d ≡ n + suc d = omega arith in
    let next = more total g needed (suc n) d (omega arith) (one_more total g needed n (omega arith) r) in
    subst (Refuted total g needed) same next

-- three weights of which the first two and the last two share the second alone
three_apart : (total g needed : ℕ) → 1 ≤ g → 2 * g < total → total - 2 * g < needed → Refuted total g needed 3
three_apart total g needed some less over = (
  g ∷ (total - 2 * g) ∷ g ∷ [],
  true ∷ true ∷ false ∷ [],
  false ∷ true ∷ true ∷ [],
  record {
    positive = (some, (omega arith, (some, tt)));
    participants = refl;
    of_total =
        omega (arith, sum-cons g ((total - 2 * g) ∷ g ∷ []), sum-cons (total - 2 * g) (g ∷ []), sum-cons g []);
    first = refl;
    second = refl;
    first_weighs = omega arith;
    second_weighs = omega arith;
    too_little = omega arith;
  },
)

-- three weights of which the first and the last two share none
three_disjoint : (total g needed : ℕ) → 3 ≤ total → g < total → total ≤ 2 * g → 1 ≤ needed → Refuted total g needed 3
three_disjoint total g needed some less most one = (
  (total - g) ∷ 1 ∷ (g - 1) ∷ [],
  true ∷ false ∷ false ∷ [],
  false ∷ true ∷ true ∷ [],
  record {
    positive = (omega arith, (omega arith, (omega arith, tt)));
    participants = refl;
    of_total =
        omega (arith, sum-cons (total - g) (1 ∷ (g - 1) ∷ []), sum-cons 1 ((g - 1) ∷ []), sum-cons (g - 1) []);
    first = refl;
    second = refl;
    first_weighs = omega arith;
    second_weighs = omega arith;
    too_little = one;
  },
)

-- where g is all, no participant makes a quorum
three_none : (total g needed : ℕ) → 3 ≤ total → total ≤ g → 1 ≤ needed → Refuted total g needed 3
three_none total g needed some most one = (
  1 ∷ 1 ∷ (total - 2) ∷ [],
  false ∷ false ∷ false ∷ [],
  false ∷ false ∷ false ∷ [],
  record {
    positive = (omega arith, (omega arith, (omega arith, tt)));
    participants = refl;
    of_total =
        omega (arith, sum-cons 1 (1 ∷ (total - 2) ∷ []), sum-cons 1 ((total - 2) ∷ []), sum-cons (total - 2) []);
    first = refl;
    second = refl;
    first_weighs = omega arith;
    second_weighs = omega arith;
    too_little = one;
  },
)

-- three weights in each case
three_weights : (total g needed : ℕ) → 3 ≤ total → 1 ≤ g → 1 ≤ needed → total - 2 * g < needed
    → Refuted total g needed 3
three_weights total g needed some one_g one_needed over =
    elim (cases_lt (2 * g) total) [
      | inl apart ↦ three_apart total g needed one_g apart over
      | inr close ↦ elim (cases_lt g total) [
        | inl less ↦ three_disjoint total g needed some less close one_needed
        | inr most ↦ three_none total g needed some most one_needed
      ]
    ]

-- Where kg + 1 is more than the total, g isn't safe for some n weights of it, for each n from 3 to the total.
pub refuted_at : (k total g n : ℕ) → 2 ≤ k → 1 ≤ g → total < k * g + 1 → 3 ≤ n → n ≤ total
    → (ws : List ℕ) × IsRefutation k total g n ws
refuted_at k total g n two some over three within =
    let needed = (k - 2) * g + 1 in
    let few : total - 2 * g < needed = omega (arith, split k g two) in
    let begin = three_weights total g needed (omega arith) some (omega arith) few in
    let same : 3 + (n - 3) ≡ n = omega arith in
    let r = subst (Refuted total g needed) same (more total g needed 3 (n - 3) (omega arith) begin) in
    let h = r.3 in (
      r.0,
      record {
        are_weights = record { some = omega (arith, h.participants); positive = all_positive r.0 h.positive };
        participants = h.participants;
        of_total = h.of_total;
        unsafe = λ o.
            let many = o.shares r.1 r.2 h.first h.second
            (omega (arith, h.of_total, h.first_weighs)) (omega (arith, h.of_total, h.second_weighs)) in
            omega (arith, many, h.too_little);
      },
    )
