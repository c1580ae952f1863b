-- Accountability and safety, over any relation of who signed what.
use Rattle.std.proofs.Common.{ℕ, ◌+◌, ◌*◌, ◌<◌, ◌≤◌, List, subst}
use Rattle.std.proofs.lemmas.List.Elements.{All-contains}
use Rattle.committee_certificates.specs.Accountability.{AtMostFaulty, EachHasEquivocated, EachSigned, HasEquivocated}
use Rattle.committee_certificates.specs.Accountability.{IsCertifiedBy, SignOneDecision}
use Rattle.committee_certificates.specs.Signers.{AreInBoth}
use Rattle.committee_certificates.specs.Slots.{Contradict}
use Rattle.committee_certificates.proofs.Both.{common, AreInBoth-common}
use Rattle.committee_certificates.proofs.Members.{AreQuorumsAndBoth, both-leave}

-- whoever is in both lists signed both values
pub each_guilty : (signed : ℕ → List ℕ → Type 0) (first second named value other : List ℕ)
    → EachSigned signed first value → EachSigned signed second other → Contradict value other
    → AreInBoth first second named → EachHasEquivocated signed named
each_guilty signed first second named value other h k c both =
    λ index w. let b = (both.exactly index).0 w in (value, other, h index b.0, k index b.1, c)

-- and isn't honest, where honest participants sign one decision for each slot
pub not_honest : (honest : ℕ → Type 0) (signed : ℕ → List ℕ → Type 0) → SignOneDecision honest signed
    → (index : ℕ) → HasEquivocated signed index → ¬ honest index
not_honest honest signed rule index e h =
    let c = e.4 in
    c.decisions_differ (rule.one_decision index h c.slot c.decision c.other_decision c.is_for.short
    (subst (signed index) c.is_for.text e.2) (subst (signed index) c.other_is_for.text e.3))

-- so no two quorums sign different decisions for one slot
pub no_two : (n f : ℕ) (honest : ℕ → Type 0) (signed : ℕ → List ℕ → Type 0) → 3 * f + 1 ≤ n
    → SignOneDecision honest signed → AtMostFaulty n f honest → (first second value other : List ℕ)
    → IsCertifiedBy n f signed first value → IsCertifiedBy n f signed second other → ¬ Contradict value other
no_two n f honest signed fits rule at_most first second value other p q c =
    let both = AreInBoth-common first second p.strict in
    let quorums : AreQuorumsAndBoth n f first second (common first second) = record {
      first_strict = p.strict;
      second_strict = q.strict;
      first_members = p.members;
      second_members = q.members;
      first_enough = p.enough;
      second_enough = q.enough;
      both = both;
    } in
    let r = (both-leave quorums fits).of_participants at_most.faulty at_most.strict at_most.members at_most.few in
    let member : r.0 < n = All-contains (λ i. i < n) first r.0 p.members ((both.exactly r.0).0 r.1).0 in
    not_honest honest signed rule r.0
    (each_guilty signed first second (common first second) value other p.each_signed q.each_signed c both r.0 r.1)
    (at_most.others_honest r.0 member r.2)
