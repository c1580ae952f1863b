-- What two subsets weigh, and what they share.
use Rattle.std.proofs.Common.{◌≡◌, ℕ, zero, suc, ◌+◌, ◌-◌, ◌*◌, ◌<◌, ◌≤◌, Bool, true, false, cond, ◌&&◌, List}
use Rattle.std.proofs.Common.{[], ◌∷◌, map, sum, refl, ap, sym, ◌∙◌, ◌↔◌, arith}
use Rattle.std.proofs.lemmas.List.Sums.{sum_by-cons}
use Rattle.commonware_faults.specs.Subsets.{IsIn, IsOutside}
use Rattle.committee_weights.specs.Weights.{AreWeights, weight, shared_weight, IsSubset, WeightedOverlap, WeightedMeetsOutside}
use Rattle.committee_weights.specs.Weights.{NoThreeCover}
use Rattle.std.specs.Prelude.{not}

-- one weight more
pub sum-cons : (w : ℕ) (ws : List ℕ) → sum (w ∷ ws) ≡ w + sum ws
sum-cons w ws = sum_by-cons (λ x. x) w ws

-- one weight more of a subset
pub weight-cons : (w : ℕ) (ws : List ℕ) (x : Bool) (xs : List Bool)
    → weight (w ∷ ws) (x ∷ xs) ≡ cond x w 0 + weight ws xs
weight-cons w ws true xs = omega arith
weight-cons w ws false xs = omega arith

-- without its first place a subset weighs no more
weight-tail : (w : ℕ) (ws : List ℕ) (x : Bool) (xs : List Bool) → weight ws xs ≤ weight (w ∷ ws) (x ∷ xs)
weight-tail w ws true xs = omega arith
weight-tail w ws false xs = omega arith

-- one weight more that two subsets may share
pub shared_weight-cons : (w : ℕ) (ws : List ℕ) (x y : Bool) (xs ys : List Bool)
    → shared_weight (w ∷ ws) (x ∷ xs) (y ∷ ys) ≡ cond (x && y) w 0 + shared_weight ws xs ys
shared_weight-cons w ws true true xs ys = omega arith
shared_weight-cons w ws true false xs ys = omega arith
shared_weight-cons w ws false true xs ys = omega arith
shared_weight-cons w ws false false xs ys = omega arith

-- no subset weighs more than all
pub weight-le-sum : (ws : List ℕ) (xs : List Bool) → weight ws xs ≤ sum ws
weight-le-sum [] xs = omega arith
weight-le-sum (w ∷ ws) [] = omega arith
weight-le-sum (w ∷ ws) (true ∷ xs) = omega (arith, sum-cons w ws, weight-le-sum ws xs)
weight-le-sum (w ∷ ws) (false ∷ xs) = omega (arith, sum-cons w ws, weight-le-sum ws xs)

-- two subsets share at least what they weigh together above all
pub weight-le-shared : (ws : List ℕ) (xs ys : List Bool) → IsSubset ws xs → IsSubset ws ys
    → weight ws xs + weight ws ys ≤ sum ws + shared_weight ws xs ys
weight-le-shared [] xs ys l m = omega arith
weight-le-shared (w ∷ ws) [] ys l m = absurd (omega arith)
weight-le-shared (w ∷ ws) (x ∷ xs) [] l m = absurd (omega arith)
weight-le-shared (w ∷ ws) (true ∷ xs) (true ∷ ys) l m =
    omega (arith, sum-cons w ws, weight-le-shared ws xs ys (omega arith) (omega arith))
weight-le-shared (w ∷ ws) (true ∷ xs) (false ∷ ys) l m =
    omega (arith, sum-cons w ws, weight-le-shared ws xs ys (omega arith) (omega arith))
weight-le-shared (w ∷ ws) (false ∷ xs) (true ∷ ys) l m =
    omega (arith, sum-cons w ws, weight-le-shared ws xs ys (omega arith) (omega arith))
weight-le-shared (w ∷ ws) (false ∷ xs) (false ∷ ys) l m =
    omega (arith, sum-cons w ws, weight-le-shared ws xs ys (omega arith) (omega arith))

-- whatever f is, two subsets that weigh all but at most f share all but at most 2f
pub quorums_share : (ws : List ℕ) (f : ℕ) → WeightedOverlap ws (sum ws - f) (sum ws - 2 * f)
quorums_share ws f = record { shares = λ xs ys l m s t. omega (arith, weight-le-shared ws xs ys l m) }

-- two subsets that share more than a third weighs share a participant outside the third
pub shared_beyond : (ws : List ℕ) (xs ys zs : List Bool) → IsSubset ws xs → IsSubset ws ys → IsSubset ws zs
    → weight ws zs < shared_weight ws xs ys → (p : ℕ) × IsIn xs p × IsIn ys p × IsOutside zs p
shared_beyond [] xs ys zs l m o h = absurd (omega arith)
shared_beyond (w ∷ ws) [] ys zs l m o h = absurd (omega arith)
shared_beyond (w ∷ ws) (x ∷ xs) [] zs l m o h = absurd (omega arith)
shared_beyond (w ∷ ws) (x ∷ xs) (y ∷ ys) [] l m o h = absurd (omega arith)
shared_beyond (w ∷ ws) (true ∷ xs) (true ∷ ys) (false ∷ zs) l m o h = (0, refl, refl, refl)
shared_beyond (w ∷ ws) (true ∷ xs) (true ∷ ys) (true ∷ zs) l m o h =
    let r = shared_beyond ws xs ys zs (omega arith) (omega arith) (omega arith) (omega arith) in
    (suc r.0, r.1, r.2, r.3)
shared_beyond (w ∷ ws) (true ∷ xs) (false ∷ ys) (z ∷ zs) l m o h =
    let less = weight-tail w ws z zs in
    let r = shared_beyond ws xs ys zs (omega arith) (omega arith) (omega arith) (omega (arith, h, less)) in
    (suc r.0, r.1, r.2, r.3)
shared_beyond (w ∷ ws) (false ∷ xs) (y ∷ ys) (z ∷ zs) l m o h =
    let less = weight-tail w ws z zs in
    let r = shared_beyond ws xs ys zs (omega arith) (omega arith) (omega arith) (omega (arith, h, less)) in
    (suc r.0, r.1, r.2, r.3)

-- a subset shares with itself what it weighs
shared_weight-itself : (ws : List ℕ) (xs : List Bool) → shared_weight ws xs xs ≡ weight ws xs
shared_weight-itself [] xs = refl
shared_weight-itself (w ∷ ws) [] = refl
shared_weight-itself (w ∷ ws) (true ∷ xs) = ap (λ n. w + n) (shared_weight-itself ws xs)
shared_weight-itself (w ∷ ws) (false ∷ xs) = shared_weight-itself ws xs

-- so a subset that weighs more than another has a member outside it
pub beyond : (ws : List ℕ) (large small : List Bool) → IsSubset ws large → IsSubset ws small
    → weight ws small < weight ws large → (p : ℕ) × IsIn large p × IsOutside small p
beyond ws xs ys l m h =
    let r = shared_beyond ws xs xs ys l l m (omega (arith, h, shared_weight-itself ws xs)) in (r.0, r.1, r.3)

-- what two tests share is what passes both
pub shared_weight-map : (ws : List ℕ) (p q : ℕ → Bool) (ks : List ℕ)
    → shared_weight ws (map p ks) (map q ks) ≡ weight ws (map (λ k. p k && q k) ks)
shared_weight-map [] p q ks = refl
shared_weight-map (w ∷ ws) p q [] = refl
shared_weight-map (w ∷ ws) p q (k ∷ ks) =
    shared_weight-cons w ws (p k) (q k) (map p ks) (map q ks)
    ∙ ap (λ n. cond (p k && q k) w 0 + n) (shared_weight-map ws p q ks)
    ∙ sym (weight-cons w ws (p k && q k) (map (λ j. p j && q j) ks))

-- where 3f + 1 is up to all, quorums share a participant outside any f
pub meets-by_thirds : (ws : List ℕ) (f : ℕ) → 3 * f + 1 ≤ sum ws → WeightedMeetsOutside ws (sum ws - f) f
meets-by_thirds ws f h = record {
  meets = λ xs ys zs l m o s t u.
      shared_beyond ws xs ys zs l m o (omega (arith, h, s, t, u, weight-le-shared ws xs ys l m));
}

-- weights have a sum
pub some_weight : (ws : List ℕ) → AreWeights ws → 1 ≤ sum ws
some_weight [] h = absurd (omega (arith, h.some))
some_weight (w ∷ ws) h = omega (arith, sum-cons w ws, h.positive 0 0 (omega arith))

-- a subset and the rest weigh all
pub weight-rest : (ws : List ℕ) (xs : List Bool) → IsSubset ws xs → weight ws xs + weight ws (map not xs) ≡ sum ws
weight-rest [] xs l = omega arith
weight-rest (w ∷ ws) [] l = absurd (omega arith)
weight-rest (w ∷ ws) (true ∷ xs) l = omega (arith, sum-cons w ws, weight-rest ws xs (omega arith))
weight-rest (w ∷ ws) (false ∷ xs) l = omega (arith, sum-cons w ws, weight-rest ws xs (omega arith))

-- those outside a subset of at most f weigh all but at most f
pub rest_weighs : (ws : List ℕ) (f : ℕ) (xs : List Bool) → IsSubset ws xs → weight ws xs ≤ f
    → sum ws - f ≤ weight ws (map not xs)
rest_weighs ws f xs l h = omega (arith, weight-rest ws xs l)

-- the rest is a subset too
length-rest : (ws : List ℕ) (xs : List Bool) → IsSubset ws xs → IsSubset ws (map not xs)
length-rest [] [] l = refl
length-rest [] (x ∷ xs) l = absurd (omega arith)
length-rest (w ∷ ws) [] l = absurd (omega arith)
length-rest (w ∷ ws) (x ∷ xs) l = omega (arith, length-rest ws xs (omega arith))

-- what is in the rest is outside
outside-from_rest : (xs : List Bool) (p : ℕ) → IsIn (map not xs) p → IsOutside xs p
outside-from_rest [] p h = absurd (cc)
outside-from_rest (true ∷ xs) zero h = absurd (cc)
outside-from_rest (false ∷ xs) zero h = refl
outside-from_rest (x ∷ xs) (suc p) h = outside-from_rest xs p h

-- and what is outside the rest is in
in-from_rest : (xs : List Bool) (p : ℕ) → IsOutside (map not xs) p → IsIn xs p
in-from_rest [] p h = absurd (cc)
in-from_rest (true ∷ xs) zero h = refl
in-from_rest (false ∷ xs) zero h = absurd (cc)
in-from_rest (x ∷ xs) (suc p) h = in-from_rest xs p h

-- quorums of all but f meet outside any f exactly where no three subsets of at most f cover all
pub meets_where_none_cover : (ws : List ℕ) (f : ℕ) → WeightedMeetsOutside ws (sum ws - f) f ↔ NoThreeCover ws f
meets_where_none_cover ws f = (
  λ h. record {
    leave = λ xs ys zs l m o s t u.
        let r = h.meets (map not xs) (map not ys) zs (length-rest ws xs l) (length-rest ws ys m) o
        (rest_weighs ws f xs l s) (rest_weighs ws f ys m t) u in
        (r.0, outside-from_rest xs r.0 r.1, outside-from_rest ys r.0 r.2, r.3);
  },
  λ h. record {
    meets = λ xs ys zs l m o s t u.
        let r = h.leave (map not xs) (map not ys) zs (length-rest ws xs l) (length-rest ws ys m) o
        (omega (arith, weight-rest ws xs l)) (omega (arith, weight-rest ws ys m)) u in
        (r.0, in-from_rest xs r.0 r.1, in-from_rest ys r.0 r.2, r.3);
  },
)
