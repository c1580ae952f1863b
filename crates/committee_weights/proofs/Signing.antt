-- Signers as subsets of the participants: what those of two certificates share, and what is outside.
use Rattle.std.proofs.Common.{◌≡◌, ℕ, ◌+◌, ◌-◌, ◌*◌, ◌<◌, ◌≤◌, Bool, ◌&&◌, List, length, map}
use Rattle.std.proofs.Common.{sum, ap, ◌∙◌, arith}
use Rattle.std.specs.List.{range_with_len}
use Rattle.std.proofs.lemmas.Bool.Decides.{same_from_decides}
use Rattle.commonware_faults.specs.laws.SubsetSizeLaws.{length-passing}
use Rattle.commonware_ordered.specs.Voters.{is_among, members_among}
use Rattle.commonware_ordered.specs.laws.PlaceLaws.{among_iff}
use Rattle.committee_certificates.specs.Signers.{AreInBoth}
use Rattle.committee_certificates.specs.laws.SignerLaws.{Contains-from_subset, outside_not_listed, tells_both}
use Rattle.committee_weights.specs.Members.{weight_of, LeavesOneOutsideWeight}
use Rattle.committee_weights.specs.Weights.{weight, shared_weight, IsSubset}
use Rattle.committee_weights.proofs.Listed.{map_agree_from}
use Rattle.committee_weights.proofs.Sharing.{beyond, quorums_share, shared_weight-map}

-- the participants as a subset of the committee's positions
abbrev positions : List ℕ → List ℕ → List Bool
positions ws xs = members_among (length ws) xs

-- they are a subset of it
length-positions : (ws xs : List ℕ) → IsSubset ws (positions ws xs)
length-positions ws xs = length-passing (is_among xs) (length ws)

-- what the signers of two certificates share is what the signers of both weigh
shared-positions : (ws xs ys zs : List ℕ) → AreInBoth xs ys zs
    → shared_weight ws (positions ws xs) (positions ws ys) ≡ weight_of ws zs
shared-positions ws xs ys zs h =
    let ks = range_with_len 0 (length ws) in
    let agree = λ (p : ℕ).
    same_from_decides (is_among xs p && is_among ys p) (is_among zs p)
    (tells_both _ _ _ _ (among_iff xs p) (among_iff ys p))
    (λ e. (h.exactly p).0 ((among_iff zs p).0 e), λ w. (among_iff zs p).1 ((h.exactly p).1 w)) in
    let same : map (λ k. is_among xs k && is_among ys k) ks ≡ map (is_among zs) ks =
    map_agree_from (λ k. is_among xs k && is_among ys k) (is_among zs) 0 (length ws) (λ k low. agree k) in
    shared_weight-map ws (is_among xs) (is_among ys) ks ∙ ap (λ l. weight ws l) same

-- those in both weigh all but at most 2f, where each of two certificates has all but at most f
pub both_weigh : (ws : List ℕ) (f : ℕ) (xs ys zs : List ℕ) → sum ws - f ≤ weight_of ws xs → sum ws - f ≤ weight_of ws ys
    → AreInBoth xs ys zs → sum ws ≤ 2 * f + weight_of ws zs
both_weigh ws f xs ys zs one two h =
    let share =
    (quorums_share ws f).shares (positions ws xs) (positions ws ys) (length-positions ws xs) (length-positions ws ys)
    one two in
    omega (arith, share, shared-positions ws xs ys zs h)

-- those that weigh more than f leave one outside any f
pub leaves_one : (ws : List ℕ) (f : ℕ) (zs : List ℕ) → f < weight_of ws zs → LeavesOneOutsideWeight ws f zs
leaves_one ws f zs more = record {
  of_positions = λ faulty l u.
      let r = beyond ws (positions ws zs) faulty (length-positions ws zs) l (omega (arith, more, u)) in
      (r.0, Contains-from_subset (length ws) zs r.0 r.1, r.2);
  of_participants = λ faulty u.
      let r = beyond ws (positions ws zs) (positions ws faulty) (length-positions ws zs) (length-positions ws faulty)
      (omega (arith, more, u)) in
      (r.0, Contains-from_subset (length ws) zs r.0 r.1, outside_not_listed (length ws) faulty r.0 r.2);
}
