use Rattle.std.proofs.Common.{◌*◌, ◌+◌, ◌≤◌, ℕ, List, arith, sum}
use Rattle.std.specs.Ordering.{nat_cmp}
use Rattle.commonware_ordered.specs.Strict.{IsStrict}
use Rattle.committee_certificates.specs.Accountability.{EachSigned, InLog}
use Rattle.committee_weights.specs.Accountability.{IsCertifiedByWeight}
use Rattle.committee_weights.specs.Members.{AreWeightedQuorum, faulty_weight}
use Rattle.uses.proofs.safety.both_heavy_by_log.Goals as goal

-- a quorum that signed is a quorum certificate
certified : (ws : List ℕ) (signed : ℕ → List ℕ → Type 0) (signers value : List ℕ) → IsStrict nat_cmp signers
    → EachSigned signed signers value → AreWeightedQuorum 3 ws signers
    → IsCertifiedByWeight ws (faulty_weight 3 (sum ws)) signed signers value
certified ws signed signers value strict each quorum = record {
  strict = strict;
  members = quorum.0;
  enough = quorum.1;
  each_signed = each;
}

pub returns-then-is_ok : goal.returns-then-is_ok
returns-then-is_ok c = λ honest log yes rule at_most one two.
    let ws = c.args.weights.now in
    let first = c.args.first.now in
    let second = c.args.second.now in
    let fits : 3 * faulty_weight 3 (sum ws) + 1 ≤ sum ws =
    omega (arith, c.max_faulty_weight.ensures.tolerance.fits.fits, c.max_faulty_weight.ensures.value) in
    let first_quorum : AreWeightedQuorum 3 ws first.signers = c.check_weight.ensures.quorum.0 (cc) in
    let second_quorum : AreWeightedQuorum 3 ws second.signers = c.check_weight-then-is_ok.ensures.quorum.0 (cc) in
    c.weighted_safety_law.ensures ws (faulty_weight 3 (sum ws)) honest log fits rule at_most first.signers second.signers
    first.value.items second.value.items
    (certified ws (InLog log) first.signers first.value.items c.as_slice.ensures.strict one first_quorum)
    (certified ws (InLog log) second.signers second.value.items c.as_slice-2.ensures.strict two second_quorum)
