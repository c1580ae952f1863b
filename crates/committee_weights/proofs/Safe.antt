-- No two weighted quorums sign different decisions for one slot, where few are faulty.
use Rattle.std.proofs.Common.{ℕ, ◌+◌, ◌*◌, ◌<◌, ◌≤◌, List, length, sum, arith}
use Rattle.std.proofs.lemmas.List.Elements.{All-contains}
use Rattle.committee_certificates.specs.Accountability.{SignOneDecision}
use Rattle.committee_certificates.specs.Slots.{Contradict}
use Rattle.committee_certificates.proofs.Accountable.{each_guilty, not_honest}
use Rattle.committee_certificates.proofs.Both.{common, AreInBoth-common}
use Rattle.committee_weights.specs.Accountability.{FaultyWeighAtMost, IsCertifiedByWeight}
use Rattle.committee_weights.proofs.Signing.{both_weigh, leaves_one}

-- one that signed both is not among the faulty, and no honest one signs both
pub no_two : (ws : List ℕ) (f : ℕ) (honest : ℕ → Type 0) (signed : ℕ → List ℕ → Type 0) → 3 * f + 1 ≤ sum ws
    → SignOneDecision honest signed → FaultyWeighAtMost ws f honest → (first second value other : List ℕ)
    → IsCertifiedByWeight ws f signed first value → IsCertifiedByWeight ws f signed second other
    → ¬ Contradict value other
no_two ws f honest signed fits rule at_most first second value other p q c =
    let both = AreInBoth-common first second p.strict in
    let named = common first second in
    let shared = both_weigh ws f first second named p.enough q.enough both in
    let r = (leaves_one ws f named (omega (arith, fits, shared))).of_participants at_most.faulty at_most.light in
    let member : r.0 < length ws = All-contains (λ i. i < length ws) first r.0 p.members ((both.exactly r.0).0 r.1).0 in
    not_honest honest signed rule r.0
    (each_guilty signed first second named value other p.each_signed q.each_signed c both r.0 r.1)
    (at_most.others_honest r.0 member r.2)
