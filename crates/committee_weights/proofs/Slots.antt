-- What two values are to one another is one thing.
use Rattle.std.proofs.Common.{refl, List, ℕ}
use Rattle.committee_certificates.specs.Slots.{AreOfOtherSlots, AreOneDecision, Contradict}
use Rattle.committee_certificates.proofs.SlotLemmas.{one_decision_same, other_slots_differ}

-- values for other slots don't contradict one another
pub other_slots_agree : {value other : List ℕ} → AreOfOtherSlots value other → ¬ Contradict value other
other_slots_agree o c = other_slots_differ c.is_for c.other_is_for o refl

-- nor does one decision
pub one_decision_agrees : {value other : List ℕ} → AreOneDecision value other → ¬ Contradict value other
one_decision_agrees o c = c.decisions_differ (one_decision_same c.is_for c.other_is_for o).1
