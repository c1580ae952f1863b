use Rattle.std.proofs.Common.{ℕ, ◌*◌, ◌+◌, ◌≤◌, List, arith, sum}
use Rattle.std.proofs.Math.Nat.{mul-le-mul_right}
use Rattle.std.specs.Ordering.{nat_cmp}
use Rattle.commonware_ordered.specs.Strict.{IsStrict}
use Rattle.committee_certificates.specs.Accountability.{EachSigned}
use Rattle.committee_weights.specs.Accountability.{IsCertifiedByWeight}
use Rattle.committee_weights.specs.Members.{AreWeightedQuorum, faulty_weight}
use Rattle.committee_weights.specs.Weights.{AreWeights}
use Rattle.committee_weights.proofs.Safe.{no_two}
use Rattle.committee_weights.proofs.Safety.{weight_tolerance}
use Rattle.committee_weights.proofs.Sharing.{some_weight}
use Rattle.committee_weights.proofs.certified.weighted_safety_of.Goals as goal

-- three times what may be faulty and one more are at most the total, at a k of 3 or more
fits : (k : ℕ) (ws : List ℕ) → 3 ≤ k → AreWeights ws → 3 * faulty_weight k (sum ws) + 1 ≤ sum ws
fits k ws three are =
    let tolerance = weight_tolerance k (sum ws) (omega arith) (some_weight ws are) in
    omega (arith, tolerance.fits.fits, mul-le-mul_right (faulty_weight k (sum ws)) three)

-- a quorum that signed is a quorum certificate
certified : (k : ℕ) (ws : List ℕ) (signed : ℕ → List ℕ → Type 0) (signers value : List ℕ) → IsStrict nat_cmp signers
    → EachSigned signed signers value → AreWeightedQuorum k ws signers
    → IsCertifiedByWeight ws (faulty_weight k (sum ws)) signed signers value
certified k ws signed signers value strict each quorum = record {
  strict = strict;
  members = quorum.0;
  enough = quorum.1;
  each_signed = each;
}

pub returns : goal.returns
returns g c = λ k three rule at_most one two p q.
    let ws = c.args.weights.now in
    let signed = g.S.Signing.signed in
    let first = c.args.first.now in
    let second = c.args.second.now in
    no_two ws (faulty_weight k (sum ws)) g.S.Signing.honest signed
    (fits k ws three c.as_slice-3.ensures.are_weights.are_weights) rule at_most first.signers second.signers
    first.value.items second.value.items
    (certified k ws signed first.signers first.value.items c.as_slice.ensures.strict one p)
    (certified k ws signed second.signers second.value.items c.as_slice-2.ensures.strict two q)
