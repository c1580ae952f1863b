-- Weights that are all 1.
use Rattle.std.proofs.Common.{◌≡◌, ℕ, ◌-◌, ◌/◌, ◌<◌, ◌≤◌, ◌↔◌, List, [], ◌∷◌, length, sum, refl, subst, sym, ◌∙◌, arith}
use Rattle.std.specs.List.{All, sum_by}
use Rattle.std.specs.Ordering.{nat_cmp}
use Rattle.std.proofs.lemmas.List.Elements.{All-head, All-tail}
use Rattle.std.proofs.lemmas.List.Sums.{sum_by-cons}
use Rattle.commonware_ordered.specs.Strict.{IsStrict}
use Rattle.committee_certificates.specs.Signers.{AreMembers, AreQuorum}
use Rattle.committee_weights.specs.Members.{AreWeightedQuorum, quorum_weight, weight_of}
use Rattle.committee_weights.proofs.Listed.{weight_at, weight_of-listed}
use Rattle.committee_weights.proofs.Sharing.{sum-cons}

-- each is 1
abbrev pub AreOnes : List ℕ → Type 0
AreOnes ws = All (λ w. w ≡ 1) ws

-- together they weigh as many as they are
pub sum_of_ones : (ws : List ℕ) → AreOnes ws → sum ws ≡ length ws
sum_of_ones [] h = refl
sum_of_ones (w ∷ ws) h =
    omega (arith, sum-cons w ws, All-head (λ v. v ≡ 1) w ws h, sum_of_ones ws (All-tail (λ v. v ≡ 1) w ws h))

-- and so do members, one by one
listed_ones : (ws xs : List ℕ) → AreOnes ws → AreMembers (length ws) xs → sum_by (weight_at ws) xs ≡ length xs
listed_ones ws [] h m = refl
listed_ones ws (x ∷ xs) h m =
    let here : weight_at ws x ≡ 1 = h x 0 (All-head (λ i. i < length ws) x xs m) in
    let rest = listed_ones ws xs h (All-tail (λ i. i < length ws) x xs m) in
    omega (arith, sum_by-cons (weight_at ws) x xs, here, rest)

-- members weigh as many as they are
pub weight_of_ones : (ws xs : List ℕ) → AreOnes ws → IsStrict nat_cmp xs → AreMembers (length ws) xs
    → weight_of ws xs ≡ length xs
weight_of_ones ws xs h strict m = weight_of-listed ws xs strict ∙ listed_ones ws xs h m

-- so a quorum by weight is one by heads
pub quorum_of_ones : (ws xs : List ℕ) (k : ℕ) → AreOnes ws → IsStrict nat_cmp xs
    → AreWeightedQuorum k ws xs ↔ AreQuorum (λ n. (n - 1) / k) (length ws) xs
quorum_of_ones ws xs k h strict =
    let all = sum_of_ones ws h in (
      λ q. (
        q.0,
        subst (λ total. quorum_weight k total ≤ length xs) all
            (subst (λ weighs. quorum_weight k (sum ws) ≤ weighs) (weight_of_ones ws xs h strict q.0) q.1),
      ),
      λ q. (
        q.0,
        subst (λ weighs. quorum_weight k (sum ws) ≤ weighs) (sym (weight_of_ones ws xs h strict q.0))
            (subst (λ total. quorum_weight k total ≤ length xs) (sym all) q.1),
      ),
    )
