-- Weights in three groups, and the subsets of whole groups.
use Rattle.std.proofs.Common.{◌≡◌, ℕ, zero, suc, ◌+◌, ◌-◌, ◌*◌, ◌/◌, ◌<◌, ◌≤◌, ◌^◌, ◌++◌, inl, inr, Bool, true, false, cond, ◌&&◌, List}
use Rattle.std.proofs.Common.{[], ◌∷◌, length, replicate, sum, refl, ap, sym, ◌∙◌, subst, arith}
use Rattle.std.proofs.lemmas.Bool.{cases_lt}
use Rattle.std.proofs.lemmas.List.{length-append, length-replicate}
use Rattle.committee_weights.specs.Refutations.{group, group_subset, groups, IsRefutedBy}
use Rattle.committee_weights.specs.Weights.{weight, shared_weight}
use Rattle.committee_weights.proofs.Refuting.{all_positive, split, Positive}
use Rattle.committee_weights.proofs.Safety.{sum-ones, weight_tolerance}
use Rattle.committee_weights.proofs.Sharing.{shared_weight-cons, sum-cons, weight-cons}

-- lists one after another have both sums
sum-both : (ws us : List ℕ) → sum (ws ++ us) ≡ sum ws + sum us
sum-both [] us = omega arith
sum-both (w ∷ ws) us = omega (arith, sum-cons w (ws ++ us), sum-cons w ws, sum-both ws us)

-- and a subset weighs what it does in both
weight-both : (ws us : List ℕ) (xs ys : List Bool) → length xs ≡ length ws
    → weight (ws ++ us) (xs ++ ys) ≡ weight ws xs + weight us ys
weight-both [] us [] ys l = omega arith
weight-both [] us (x ∷ xs) ys l = absurd (omega arith)
weight-both (w ∷ ws) us [] ys l = absurd (omega arith)
weight-both (w ∷ ws) us (x ∷ xs) ys l =
    omega (arith, weight-cons w (ws ++ us) x (xs ++ ys), weight-cons w ws x xs, weight-both ws us xs ys (omega arith))

-- and two share what they do in both
shared-both : (ws us : List ℕ) (xs ys ps qs : List Bool) → length xs ≡ length ws → length ps ≡ length ws
    → shared_weight (ws ++ us) (xs ++ ys) (ps ++ qs) ≡ shared_weight ws xs ps + shared_weight us ys qs
shared-both [] us [] ys [] qs l m = omega arith
shared-both [] us (x ∷ xs) ys ps qs l m = absurd (omega arith)
shared-both [] us [] ys (p ∷ ps) qs l m = absurd (omega arith)
shared-both (w ∷ ws) us [] ys ps qs l m = absurd (omega arith)
shared-both (w ∷ ws) us (x ∷ xs) ys [] qs l m = absurd (omega arith)
shared-both (w ∷ ws) us (x ∷ xs) ys (p ∷ ps) qs l m =
    omega (
      arith,
      shared_weight-cons w (ws ++ us) x p (xs ++ ys) (ps ++ qs),
      shared_weight-cons w ws x p xs ps,
      shared-both ws us xs ys ps qs (omega arith) (omega arith),
    )

-- all or none of a list
pub weight-whole : (ws : List ℕ) (b : Bool) → weight ws (replicate (length ws) b) ≡ cond b (sum ws) 0
weight-whole [] true = omega arith
weight-whole [] false = omega arith
weight-whole (w ∷ ws) true = omega (arith, sum-cons w ws, weight-whole ws true)
weight-whole (w ∷ ws) false = weight-whole ws false

-- and what two such subsets share
pub shared-whole : (ws : List ℕ) (b c : Bool)
    → shared_weight ws (replicate (length ws) b) (replicate (length ws) c) ≡ cond (b && c) (sum ws) 0
shared-whole [] true true = omega arith
shared-whole [] true false = omega arith
shared-whole [] false c = omega arith
shared-whole (w ∷ ws) true true = omega (arith, sum-cons w ws, shared-whole ws true true)
shared-whole (w ∷ ws) true false = shared-whole ws true false
shared-whole (w ∷ ws) false c = shared-whole ws false c

-- none of a list one after another is 0
positive-both : (ws us : List ℕ) → Positive ws → Positive us → Positive (ws ++ us)
positive-both [] us h k = k
positive-both (w ∷ ws) us h k = (h.0, positive-both ws us h.1 k)

-- nor of ones
positive-ones : (n : ℕ) → Positive (replicate n 1)
positive-ones zero = tt
positive-ones (suc n) = (omega arith, positive-ones n)

-- weights of n participants that weigh s
record AreOf (n s : ℕ) (ws : List ℕ) : Type 0 where
  pub positive : Positive ws
  pub count : length ws ≡ n
  pub total : sum ws ≡ s

-- a group is
of_group : (a x : ℕ) → 1 ≤ a → a ≤ x → AreOf a x (group a x)
of_group a x some fits =
    let last = x - (a - 1) in
    record {
      positive = positive-both (replicate (a - 1) 1) (last ∷ []) (positive-ones (a - 1)) (omega arith, tt);
      count = omega (arith, length-append (replicate (a - 1) 1) (last ∷ []), length-replicate {A = ℕ} (a - 1) 1);
      total = omega (arith, sum-both (replicate (a - 1) 1) (last ∷ []), sum-ones (a - 1), sum-cons last []);
    }

-- and so are two, one after another
of_both : (n s m t : ℕ) (ws us : List ℕ) → AreOf n s ws → AreOf m t us → AreOf (n + m) (s + t) (ws ++ us)
of_both n s m t ws us h k = record {
  positive = positive-both ws us h.positive k.positive;
  count = omega (arith, length-append ws us, h.count, k.count);
  total = omega (arith, sum-both ws us, h.total, k.total);
}

-- all or none of them
weight-of : (n s : ℕ) (ws : List ℕ) (b : Bool) → AreOf n s ws → weight ws (replicate n b) ≡ cond b s 0
weight-of n s ws b h =
    ap (λ m. weight ws (replicate m b)) (sym h.count) ∙ weight-whole ws b ∙ ap (λ t. cond b t 0) h.total

-- and what two such subsets share
shared-of : (n s : ℕ) (ws : List ℕ) (b c : Bool) → AreOf n s ws
    → shared_weight ws (replicate n b) (replicate n c) ≡ cond (b && c) s 0
shared-of n s ws b c h =
    ap (λ m. shared_weight ws (replicate m b) (replicate m c)) (sym h.count) ∙ shared-whole ws b c
    ∙ ap (λ t. cond (b && c) t 0) h.total

-- where g is more than the division gives, kg + 1 is more than the total
over : (k total g : ℕ) → 2 ≤ k → 1 ≤ total → (total - 1) / k < g → total < k * g + 1
over k total g two some more =
    elim (cases_lt total (k * g + 1)) [
      | inl less ↦ less
      | inr fits ↦ absurd (omega (arith, (weight_tolerance k total two some).fits.greatest g fits, more))
    ]

and_true : (b : Bool) → (b && true) ≡ b
and_true true = refl
and_true false = refl

module _ (a x b y c z : ℕ) (some : (1 ≤ a) × (1 ≤ b) × (1 ≤ c)) (within : (a ≤ x) × (b ≤ y) × (c ≤ z)) where
  of_first : AreOf a x (group a x)
  of_first = of_group a x some.0 within.0

  of_middle : AreOf b y (group b y)
  of_middle = of_group b y some.1 within.1

  of_last : AreOf c z (group c z)
  of_last = of_group c z some.2 within.2

  of_two : AreOf (a + b) (x + y) (group a x ++ group b y)
  of_two = of_both a x b y (group a x) (group b y) of_first of_middle

  of_all : AreOf (a + b + c) (x + y + z) (groups a x b y c z)
  of_all = of_both (a + b) (x + y) c z (group a x ++ group b y) (group c z) of_two of_last

  -- as many places as participants
  length-two : (p q : Bool) → length (replicate a p ++ replicate b q) ≡ a + b
  length-two p q =
      omega (arith, length-append (replicate a p) (replicate b q), length-replicate {A = Bool} a p, length-replicate {A = Bool} b q)

  length-all : (p q r : Bool) → length (group_subset a p b q c r) ≡ a + b + c
  length-all p q r =
      omega (arith, length-append (replicate a p ++ replicate b q) (replicate c r), length-two p q, length-replicate {A = Bool} c r)

  same_first : (p : Bool) → length (replicate a p) ≡ length (group a x)
  same_first p = length-replicate {A = Bool} a p ∙ sym of_first.count

  same_two : (p q : Bool) → length (replicate a p ++ replicate b q) ≡ length (group a x ++ group b y)
  same_two p q = length-two p q ∙ sym of_two.count

  -- what whole groups weigh
  weight-groups : (p q r : Bool)
      → weight (groups a x b y c z) (group_subset a p b q c r) ≡ cond p x 0 + cond q y 0 + cond r z 0
  weight-groups p q r =
      omega (
        arith,
        weight-both (group a x ++ group b y) (group c z) (replicate a p ++ replicate b q) (replicate c r) (same_two p q),
        weight-both (group a x) (group b y) (replicate a p) (replicate b q) (same_first p),
        weight-of a x (group a x) p of_first,
        weight-of b y (group b y) q of_middle,
        weight-of c z (group c z) r of_last,
      )

  -- and what they share
  shared-groups : (p q r s t u : Bool)
      → shared_weight (groups a x b y c z) (group_subset a p b q c r) (group_subset a s b t c u)
      ≡ cond (p && s) x 0 + cond (q && t) y 0 + cond (r && u) z 0
  shared-groups p q r s t u =
      omega (
        arith,
        shared-both (group a x ++ group b y) (group c z) (replicate a p ++ replicate b q) (replicate c r)
            (replicate a s ++ replicate b t) (replicate c u) (same_two p q) (same_two s t),
        shared-both (group a x) (group b y) (replicate a p) (replicate b q) (replicate a s) (replicate b t)
            (same_first p) (same_first s),
        shared-of a x (group a x) p s of_first,
        shared-of b y (group b y) q t of_middle,
        shared-of c z (group c z) r u of_last,
      )

  -- the first two groups, where the middle one is shared, and the last two refute g
  refute : (k total g n : ℕ) (both : Bool) → 2 ≤ k → (total - 1) / k < g → n < 2 ^ 32 → total < 2 ^ 64
      → a + b + c ≡ n → x + y + z ≡ total → total - g ≤ x + cond both y 0 → total - g ≤ y + z
      → cond both y 0 ≤ total - 2 * g
      → IsRefutedBy k total g n (groups a x b y c z) (group_subset a true b both c false)
      (group_subset a false b true c true)
  refute k total g n both two more few fits counts weighs first second little =
      let and = ap (λ m. cond m y 0) (and_true both) in
      let shared = shared-groups true both false false true true in
      record {
        are_weights = record {
          are_weights = record {
            some = omega (arith, of_all.count, some.0);
            positive = all_positive (groups a x b y c z) of_all.positive;
          };
          few = omega (arith, of_all.count);
          fits = omega (arith, of_all.total);
        };
        participants = of_all.count ∙ counts;
        of_total = of_all.total ∙ weighs;
        one_is = length-all true both false ∙ sym of_all.count;
        other_is = length-all false true true ∙ sym of_all.count;
        one_weighs = omega (arith, weight-groups true both false, first);
        other_weighs = omega (arith, weight-groups false true true, second);
        too_little = omega (arith, shared, and, little, over k total g two (omega (arith, some.0, within.0)) more, split k g two);
      }

  -- whatever these lists are called
  pub groups_refute : (k total g n : ℕ) (both : Bool) → 2 ≤ k → (total - 1) / k < g → n < 2 ^ 32 → total < 2 ^ 64
      → a + b + c ≡ n → x + y + z ≡ total → total - g ≤ x + cond both y 0 → total - g ≤ y + z
      → cond both y 0 ≤ total - 2 * g → (ws : List ℕ) (one other : List Bool) → ws ≡ groups a x b y c z
      → one ≡ group_subset a true b both c false → other ≡ group_subset a false b true c true
      → IsRefutedBy k total g n ws one other
  groups_refute k total g n both two more few fits counts weighs first second little ws one other e f h =
      let same : (groups a x b y c z, group_subset a true b both c false, group_subset a false b true c true)
      ≡ (ws, one, other) = λ i. (sym e i, sym f i, sym h i) in
      subst (λ (p : List ℕ × List Bool × List Bool). IsRefutedBy k total g n p.0 p.1 p.2) same
      (refute k total g n both two more few fits counts weighs first second little)
