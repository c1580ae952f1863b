-- What listed participants weigh is the sum of their weights.
use Rattle.std.proofs.Common.{◌≡◌, ℕ, zero, suc, ◌+◌, ◌-◌, ◌<◌, ◌≤◌, Bool, true, false, List, [], ◌∷◌, length, map, sum}
use Rattle.std.proofs.Common.{None, Option, Some, SomeIff, ◌^◌, get_or, take, refl, ap, subst, sym, ◌∙◌, arith, inl, inr}
use Rattle.std.proofs.Math.Nat.{eq-or-lt_of_le}
use Rattle.std.specs.List.{range_with_len, sum_by}
use Rattle.std.specs.Ordering.{nat_cmp}
use Rattle.std.proofs.lemmas.List.Sums.{sum_by-cons, sum_by_more, sum_by_more_le}
use Rattle.committee_certificates.specs.InPlace.{sum_at}
use Rattle.committee_certificates.specs.Signers.{AreMembers}
use Rattle.commonware_ordered.specs.Strict.{IsStrict}
use Rattle.commonware_ordered.specs.Voters.{is_among}
use Rattle.commonware_ordered.specs.laws.PositionLaws.{RisesFrom, among_after, among_first, not_among_below}
use Rattle.commonware_ordered.specs.laws.PositionLaws.{rises_from_strict, rises_lower}
use Rattle.committee_weights.specs.Weights.{weight}
use Rattle.committee_weights.specs.Members.{weight_of}
use Rattle.committee_weights.proofs.Sharing.{weight-le-sum}

-- tests that agree from low on give the same truth values
pub map_agree_from : (p q : ℕ → Bool) (low n : ℕ) → ((k : ℕ) → low ≤ k → p k ≡ q k)
    → map p (range_with_len low n) ≡ map q (range_with_len low n)
map_agree_from p q low zero same = refl
map_agree_from p q low (suc n) same =
    let rest = map_agree_from p q (low + 1) n (λ k h. same k (omega arith)) in
    let here = same low (omega arith) in
    rw (rest, here) refl

-- the weights of the listed, where the first weight is that of `low`
abbrev pub sum_from : ℕ → List ℕ → List ℕ → ℕ
sum_from low ws [] = 0
sum_from low ws (x ∷ xs) = get_or ws (x - low) 0 + sum_from low ws xs

-- a weight before all that are listed doesn't matter
sum_from_after : (low w : ℕ) (ws xs : List ℕ) → RisesFrom (low + 1) xs → sum_from low (w ∷ ws) xs ≡ sum_from (low + 1) ws xs
sum_from_after low w ws [] r = refl
sum_from_after low w ws (x ∷ xs) r =
    let place : x - low ≡ suc (x - (low + 1)) = omega (arith, r.0) in
    let here : get_or (w ∷ ws) (x - low) 0 ≡ get_or ws (x - (low + 1)) 0 = ap (λ k. get_or (w ∷ ws) k 0) place in
    let later = sum_from_after low w ws xs (rises_on x low xs r) in
    omega (arith, here, later)
  where
    rises_on : (x low : ℕ) (xs : List ℕ) → RisesFrom (low + 1) (x ∷ xs) → RisesFrom (low + 1) xs
    rises_on x low xs r = rises_lower (x + 1) (low + 1) xs (omega (arith, r.0)) r.1

-- without weights, none is listed
sum_from_none : (low : ℕ) (xs : List ℕ) → sum_from low [] xs ≡ 0
sum_from_none low [] = refl
sum_from_none low (x ∷ xs) = omega (arith, sum_from_none low xs)

-- none listed weigh nothing
weight_none : (ws : List ℕ) (low : ℕ) → weight ws (map (is_among []) (range_with_len low (length ws))) ≡ 0
weight_none [] low = refl
weight_none (w ∷ ws) low = weight_none ws (low + 1)

-- one weight more, in a subset
weight_in : (w : ℕ) (ws : List ℕ) (b : Bool) (bs : List Bool) → b ≡ true → weight (w ∷ ws) (b ∷ bs) ≡ w + weight ws bs
weight_in w ws true bs e = refl
weight_in w ws false bs e = absurd (cc)

-- or not in it
weight_out : (w : ℕ) (ws : List ℕ) (b : Bool) (bs : List Bool) → b ≡ false → weight (w ∷ ws) (b ∷ bs) ≡ weight ws bs
weight_out w ws true bs e = absurd (cc)
weight_out w ws false bs e = refl

-- the subset of positions from low on weighs what the listed weigh
weight_from : (ws xs : List ℕ) (low : ℕ) → RisesFrom low xs
    → weight ws (map (is_among xs) (range_with_len low (length ws))) ≡ sum_from low ws xs
weight_from [] xs low r = sym (sum_from_none low xs)
weight_from (w ∷ ws) [] low r = weight_none ws (low + 1)
weight_from (w ∷ ws) (x ∷ xs) low r =
    let bs = map (is_among (x ∷ xs)) (range_with_len (low + 1) (length ws)) in
    elim (eq-or-lt_of_le r.0) [
      | inl same ↦
          let here : is_among (x ∷ xs) low ≡ true = subst (λ y. is_among (x ∷ xs) y ≡ true) (sym same) (among_first x xs) in
          let later : bs ≡ map (is_among xs) (range_with_len (low + 1) (length ws)) =
          map_agree_from (is_among (x ∷ xs)) (is_among xs) (low + 1) (length ws) (λ k h. among_after x xs k (omega arith)) in
          let rises : RisesFrom (low + 1) xs = rises_lower (x + 1) (low + 1) xs (omega arith) r.1 in
          let rest = weight_from ws xs (low + 1) rises in
          let place : x - low ≡ 0 = omega arith in
          let first : get_or (w ∷ ws) (x - low) 0 ≡ w = ap (λ k. get_or (w ∷ ws) k 0) place in
          omega (
            arith,
            weight_in w ws (is_among (x ∷ xs) low) bs here,
            ap (λ l. weight ws l) later,
            rest,
            first,
            sum_from_after low w ws xs rises,
          )
      | inr above ↦
          let rises : RisesFrom (low + 1) (x ∷ xs) = (omega arith, r.1) in
          let here = not_among_below (low + 1) (x ∷ xs) low (omega arith) rises in
          weight_out w ws (is_among (x ∷ xs) low) bs here ∙ weight_from ws (x ∷ xs) (low + 1) rises
          ∙ sym (sum_from_after low w ws (x ∷ xs) rises)
    ]

-- the weight of a participant, 0 of one that is no member
abbrev pub weight_at : List ℕ → ℕ → ℕ
weight_at ws p = get_or ws p 0

-- from the first weight on it is the sum of all that are listed
sum_from_start : (ws xs : List ℕ) → sum_from 0 ws xs ≡ sum_by (weight_at ws) xs
sum_from_start ws [] = refl
sum_from_start ws (x ∷ xs) =
    let place : x - 0 ≡ x = omega arith in
    let first : get_or ws (x - 0) 0 ≡ get_or ws x 0 = ap (λ k. get_or ws k 0) place in
    omega (arith, first, sum_from_start ws xs, sum_by-cons (weight_at ws) x xs)

-- what strictly increasing participants weigh is the sum of their weights
pub weight_of-listed : (ws xs : List ℕ) → IsStrict nat_cmp xs → weight_of ws xs ≡ sum_by (weight_at ws) xs
weight_of-listed ws xs strict = weight_from ws xs 0 (rises_from_strict xs strict) ∙ sum_from_start ws xs

-- the sum so far, and the next weight, are no more than all
pub sum_so_far : (ws xs : List ℕ) (i x w : ℕ) → IsStrict nat_cmp xs → i < length xs → x ≡ get_or xs i x → w ≡ get_or ws x 0
    → sum_by (weight_at ws) (take i xs) + w ≤ sum ws
sum_so_far ws xs i x w strict inside here weighs =
    let next = sum_by_more_le (weight_at ws) xs i x inside in
    let same : get_or ws (get_or xs i x) 0 ≡ w = ap (λ k. get_or ws k 0) (sym here) ∙ sym weighs in
    omega (arith, next, same, weight_of-listed ws xs strict, weight-le-sum ws (map (is_among xs) (range_with_len 0 (length ws))))

-- one more
pub sum_next : (ws xs : List ℕ) (i x w : ℕ) → i < length xs → x ≡ get_or xs i x → w ≡ get_or ws x 0
    → sum_by (weight_at ws) (take (i + 1) xs) ≡ sum_by (weight_at ws) (take i xs) + w
sum_next ws xs i x w inside here weighs =
    let next = sum_by_more (weight_at ws) xs i x inside in
    let same : get_or ws (get_or xs i x) 0 ≡ w = ap (λ k. get_or ws k 0) (sym here) ∙ sym weighs in
    omega (arith, next, same)

-- they weigh no more than all, so the condition that their sum fits is no condition
pub weigh_when_members : (ws xs : List ℕ) (result : Option ℕ) → IsStrict nat_cmp xs → sum ws < 2 ^ 64
    → SomeIff result (AreMembers (length ws) xs × (sum_at ws xs < 2 ^ 64)) (sum_at ws xs)
    → SomeIff result (AreMembers (length ws) xs) (weight_of ws xs)
weigh_when_members ws xs None strict fits never = λ members.
    let most = weight-le-sum ws (map (is_among xs) (range_with_len 0 (length ws))) in
    never (members, omega (arith, most, weight_of-listed ws xs strict, fits))
weigh_when_members ws xs (Some x) strict fits h = (h.0.0, h.1 ∙ sym (weight_of-listed ws xs strict))
