-- Who signed what, and who is faulty, where participants have weights.
use Rattle.std.specs.Prelude.{ℕ, ◌-◌, ◌<◌, ◌≤◌, List, length, sum, Contains}
use Rattle.std.specs.Ordering.{nat_cmp}
use Rattle.commonware_ordered.specs.Strict.{IsStrict}
use Rattle.committee_certificates.specs.Accountability.{EachSigned}
use Rattle.committee_certificates.specs.Signers.{AreMembers}
use Rattle.committee_weights.specs.Members.{weight_of}

-- those that aren't honest weigh at most f together: they are among the listed, and these do
pub record FaultyWeighAtMost (weights : List ℕ) (f : ℕ) (honest : ℕ → Type 0) : Type 0 where
  pub faulty : List ℕ
  pub light : weight_of weights faulty ≤ f
  pub others_honest : (index : ℕ) → index < length weights → (¬ Contains faulty index) → honest index

-- a quorum certificate by weight: members that weigh all but at most f, in increasing order, each of which signed the
-- value
pub record IsCertifiedByWeight (weights : List ℕ) (f : ℕ) (signed : ℕ → List ℕ → Type 0) (signers value : List ℕ)
    : Type 0 where
  pub strict : IsStrict nat_cmp signers
  pub members : AreMembers (length weights) signers
  pub enough : sum weights - f ≤ weight_of weights signers
  pub each_signed : EachSigned signed signers value
