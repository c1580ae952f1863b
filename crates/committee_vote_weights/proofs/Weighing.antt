-- What the signers of both of two lists weigh.
use Rattle.std.proofs.Common.{◌≡◌, ℕ, ◌+◌, ◌≤◌, Bool, ◌&&◌, List, length, map, sum, ap, ◌∙◌, arith}
use Rattle.std.proofs.Common.{◌-◌, ◌*◌}
use Rattle.std.specs.List.{range_with_len}
use Rattle.std.proofs.lemmas.Bool.Decides.{same_from_decides}
use Rattle.commonware_faults.specs.laws.SubsetSizeLaws.{length-passing}
use Rattle.commonware_ordered.specs.Voters.{is_among, members_among}
use Rattle.commonware_ordered.specs.laws.PlaceLaws.{among_iff}
use Rattle.committee_certificates.specs.Signers.{AreInBoth}
use Rattle.committee_certificates.specs.laws.SignerLaws.{tells_both}
use Rattle.committee_weights.specs.Members.{faulty_weight, LeavesOneOutsideWeight, quorum_weight, weight_of}
use Rattle.committee_weights.specs.Refusals.{AreCommitteeWeights}
use Rattle.committee_weights.proofs.Safety.{enough, more_than_f}
use Rattle.committee_weights.specs.Weights.{weight, shared_weight, IsSubset}
use Rattle.committee_weights.proofs.Listed.{map_agree_from}
use Rattle.committee_weights.proofs.Sharing.{shared_weight-map, some_weight, weight-le-shared}
use Rattle.committee_weights.proofs.Signing.{leaves_one}
use Rattle.committee_vote_weights.specs.WeightShares.{AreSharedByWeight}

-- some participants as a subset of the positions
abbrev positions : List ℕ → List ℕ → List Bool
positions ws xs = members_among (length ws) xs

-- it is a subset of them
length-positions : (ws xs : List ℕ) → IsSubset ws (positions ws xs)
length-positions ws xs = length-passing (is_among xs) (length ws)

-- what two subsets share is what the signers of both weigh
shared-positions : (ws xs ys zs : List ℕ) → AreInBoth xs ys zs
    → shared_weight ws (positions ws xs) (positions ws ys) ≡ weight_of ws zs
shared-positions ws xs ys zs h =
    let ks = range_with_len 0 (length ws) in
    let agree = λ (p : ℕ).
    same_from_decides (is_among xs p && is_among ys p) (is_among zs p)
    (tells_both _ _ _ _ (among_iff xs p) (among_iff ys p))
    (λ e. (h.exactly p).0 ((among_iff zs p).0 e), λ w. (among_iff zs p).1 ((h.exactly p).1 w)) in
    let same : map (λ k. is_among xs k && is_among ys k) ks ≡ map (is_among zs) ks =
    map_agree_from (λ k. is_among xs k && is_among ys k) (is_among zs) 0 (length ws) (λ k low. agree k) in
    shared_weight-map ws (is_among xs) (is_among ys) ks ∙ ap (λ l. weight ws l) same

-- what lists that weigh at least a and at least b share
pub shared_by_weight : (ws xs ys zs : List ℕ) (a b : ℕ) → AreInBoth xs ys zs → a ≤ weight_of ws xs → b ≤ weight_of ws ys
    → AreSharedByWeight ws a b zs
shared_by_weight ws xs ys zs a b h one two =
    let share : weight_of ws xs + weight_of ws ys ≤ sum ws + weight_of ws zs =
    omega (
      arith,
      weight-le-shared ws (positions ws xs) (positions ws ys) (length-positions ws xs) (length-positions ws ys),
      shared-positions ws xs ys zs h,
    ) in
    record {
      heavy = omega (arith, share, one, two);
      leaves = λ f more. leaves_one ws f zs (omega (arith, share, one, two, more));
    }

-- What quorums of W - f share weighs all but 2f.
quorums_share : (total q w f : ℕ) → q ≡ total - f → q + q ≤ total + w → total ≤ 2 * f + w
quorums_share total q w f e h = omega (arith, e, h)

module _ {k : ℕ} {ws zs : List ℕ} (two : 2 ≤ k) (are : AreCommitteeWeights ws) {q : ℕ}
    (quorum : q ≡ quorum_weight k (sum ws)) (s : AreSharedByWeight ws q q zs) where
  -- so what the signers of both of two quorums weigh
  pub quorums-shared : sum ws ≤ 2 * faulty_weight k (sum ws) + weight_of ws zs
  quorums-shared = quorums_share (sum ws) q (weight_of ws zs) (faulty_weight k (sum ws)) quorum s.heavy

  -- is at least (k - 2)f + 1
  pub quorums-weigh : (k - 2) * faulty_weight k (sum ws) + 1 ≤ weight_of ws zs
  quorums-weigh = enough k (sum ws) (weight_of ws zs) two (some_weight ws are.are_weights) quorums-shared

  -- and one is outside any f
  pub quorums-leave : 3 ≤ k → LeavesOneOutsideWeight ws (faulty_weight k (sum ws)) zs
  quorums-leave three =
      let f = faulty_weight k (sum ws) in leaves_one ws f zs (more_than_f k f (weight_of ws zs) three quorums-weigh)
