-- What the signers of both of two weighted quorums are.
use Rattle.std.proofs.Common.{ℕ, ◌+◌, ◌-◌, ◌*◌, ◌<◌, ◌≤◌, List, length, sum, get_or, ◌⊎◌, inl, inr}
use Rattle.std.proofs.lemmas.Bool.{cases_lt}
use Rattle.std.proofs.lemmas.List.Elements.{All-from_get_or, All-contains, Contains-get_or}
use Rattle.committee_certificates.specs.Signers.{AreInBoth, AreMembers}
use Rattle.committee_weights.specs.Members.{AreTooLight, AreWeightedQuorum, faulty_weight, quorum_weight, weight_of}
use Rattle.committee_weights.specs.Members.{LeavesOneOutsideWeight}
use Rattle.committee_weights.specs.Refusals.{AreCommitteeWeights}
use Rattle.committee_weights.proofs.Safety.{enough, more_than_f}
use Rattle.committee_weights.proofs.Sharing.{some_weight}
use Rattle.committee_weights.proofs.Signing.{both_weigh, leaves_one}

module _ {k : ℕ} {ws xs ys zs : List ℕ} (two : 2 ≤ k) (are : AreCommitteeWeights ws)
    (quorums : AreWeightedQuorum k ws xs × AreWeightedQuorum k ws ys) (both : AreInBoth xs ys zs) where
  -- they are members
  pub both-members : AreMembers (length ws) zs
  both-members = All-from_get_or (λ p. p < length ws) zs 0 (λ i inside.
      let in_both = (both.exactly (get_or zs i 0)).0 (Contains-get_or zs i 0 inside) in
      All-contains (λ p. p < length ws) xs _ quorums.0.0 in_both.0)

  -- they weigh all but at most twice what may be faulty
  pub both-shared : sum ws ≤ 2 * faulty_weight k (sum ws) + weight_of ws zs
  both-shared = both_weigh ws (faulty_weight k (sum ws)) xs ys zs quorums.0.1 quorums.1.1 both

  -- so at least (k - 2)f + 1
  pub both-weigh : (k - 2) * faulty_weight k (sum ws) + 1 ≤ weight_of ws zs
  both-weigh = enough k (sum ws) (weight_of ws zs) two (some_weight ws are.are_weights) both-shared

  -- and one is outside any f
  pub both-leave : 3 ≤ k → LeavesOneOutsideWeight ws (faulty_weight k (sum ws)) zs
  both-leave three =
      let f = faulty_weight k (sum ws) in leaves_one ws f zs (more_than_f k f (weight_of ws zs) three both-weigh)

-- members that aren't two quorums are too light
pub too_light : (k : ℕ) (ws xs ys : List ℕ) → AreMembers (length ws) xs → AreMembers (length ws) ys
    → (¬ (AreWeightedQuorum k ws xs × AreWeightedQuorum k ws ys)) → AreTooLight k ws xs ⊎ AreTooLight k ws ys
too_light k ws xs ys one two never =
    elim (cases_lt (weight_of ws xs) (quorum_weight k (sum ws))) [
      | inl light ↦ inl light
      | inr first ↦ elim (cases_lt (weight_of ws ys) (quorum_weight k (sum ws))) [
        | inl light ↦ inr light
        | inr second ↦ absurd (never ((one, first), (two, second)))
      ]
    ]
