-- Quorum intersection by weight, at the signers of two decisions for one slot.
use Rattle.std.proofs.Common.{ap, refl, Err}
use Rattle.committee_certificates.proofs.SlotLemmas.{slots_from_contradict}
use Rattle.committee_weights.proofs.Both.{both-leave, both-members, both-shared, both-weigh, too_light}
use Rattle.committee_weights.proofs.Slots.{one_decision_agrees, other_slots_agree}
use Rattle.committee_weights.proofs.equivocations.weighted_equivocation.Goals as goal

pub returns-then-not-weigh-2-clause-too_light : goal.returns-then-not-weigh-2-clause-too_light
returns-then-not-weigh-2-clause-too_light g c =
    let (contradict, first, second) = rw c.len-members.ensures.value at (c.in-Err-Memory.ensures.memory (ap Err c.in-Err-Memory.field-0-is)) in
    let ws = c.args.weights.now in (
      λ e. (
        contradict,
        first.0,
        second.0,
        too_light c.args.k ws c.args.first.now.signers c.args.second.now.signers first.0 second.0
            (λ quorums. let both = c.are_quorums-weigh.ensures.1 quorums in cc (both, c.if-not-weigh-2.true)),
      ),
      λ h. refl,
    )

pub returns-else-not-weigh-clause-members : goal.returns-else-not-weigh-clause-members
returns-else-not-weigh-clause-members g c =
    both-members c.requires.resilience c.len-members.ensures.are_weights
    (c.are_quorums-weigh.ensures.0 (cc (c.if-not-weigh.false))) c.in-Ok.ensures.both

pub returns-else-not-weigh-clause-shared : goal.returns-else-not-weigh-clause-shared
returns-else-not-weigh-clause-shared g c =
    both-shared c.requires.resilience c.len-members.ensures.are_weights
    (c.are_quorums-weigh.ensures.0 (cc (c.if-not-weigh.false))) c.in-Ok.ensures.both

pub returns-else-not-weigh-clause-weigh : goal.returns-else-not-weigh-clause-weigh
returns-else-not-weigh-clause-weigh g c =
    both-weigh c.requires.resilience c.len-members.ensures.are_weights
    (c.are_quorums-weigh.ensures.0 (cc (c.if-not-weigh.false))) c.in-Ok.ensures.both

pub returns-else-not-weigh-clause-leaves : goal.returns-else-not-weigh-clause-leaves
returns-else-not-weigh-clause-leaves g c =
    both-leave c.requires.resilience c.len-members.ensures.are_weights
    (c.are_quorums-weigh.ensures.0 (cc (c.if-not-weigh.false))) c.in-Ok.ensures.both

pub returns-in-Err-NoSlot-clause-too_light : goal.returns-in-Err-NoSlot-clause-too_light
returns-in-Err-NoSlot-clause-too_light g c =
    (λ never. absurd (cc never), λ h. absurd (slots_from_contradict h.0 (c.in-Err-NoSlot.ensures.no_slot.0 (ap Err c.in-Err-NoSlot.field-0-is))))

pub returns-in-Err-OtherSlot-clause-too_light : goal.returns-in-Err-OtherSlot-clause-too_light
returns-in-Err-OtherSlot-clause-too_light g c =
    (λ never. absurd (cc never), λ h. absurd (other_slots_agree (c.in-Err-OtherSlot.ensures.other_slot.0 (ap Err c.in-Err-OtherSlot.field-0-is)) h.0))

pub returns-in-Err-SameDecision-clause-too_light : goal.returns-in-Err-SameDecision-clause-too_light
returns-in-Err-SameDecision-clause-too_light g c = (
  λ never. absurd (cc never),
  λ h. absurd (one_decision_agrees (c.in-Err-SameDecision.ensures.same_decision.0 (ap Err c.in-Err-SameDecision.field-0-is)) h.0),
)

pub returns-in-Err-Outside-clause-outside : goal.returns-in-Err-Outside-clause-outside
returns-in-Err-Outside-clause-outside g c =
    let outside = rw c.len-members.ensures.value at (c.in-Err-Outside.ensures.outside.0 (ap Err c.in-Err-Outside.field-0-is)) in
    (λ e. outside, λ h. refl)
