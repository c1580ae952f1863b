use Rattle.std.proofs.Common.{refl}
use Rattle.committee_certificates.specs.Accountability.{InLog}
use Rattle.committee_certificates.specs.declared.equivocations.EquivocationError.TheVariants.{NoSlot}
use Rattle.committee_certificates.proofs.Accountable.{each_guilty}
use Rattle.committee_certificates.proofs.SlotLemmas.{err_means, slots_from_contradict}
use Rattle.committee_certificates.proofs.equivocations.equivocation_among_counted.Goals as goal

pub returns-in_err-check_values-clause-no_slot : goal.returns-in_err-check_values-clause-no_slot
returns-in_err-check_values-clause-no_slot g c =
    err_means c.from_residual.result c.in_err-check_values.field-0.0 NoSlot _ c.from_residual.ensures.1
    (rw (c.deref.ensures.value, c.deref-2.ensures.value) at c.in_err-check_values.ensures.no_slot)

pub returns-in-Ok-clause-no_slot : goal.returns-in-Ok-clause-no_slot
returns-in-Ok-clause-no_slot g c = (
  λ never. absurd (cc never),
  λ none. absurd (slots_from_contradict (rw (c.deref.ensures.value, c.deref-2.ensures.value) at (c.in_ok-check_values.ensures.contradict.0 refl)) none),
)

pub returns-in-Ok-clause-guilty : goal.returns-in-Ok-clause-guilty
returns-in-Ok-clause-guilty g c log =
    λ h k. each_guilty (InLog log) c.args.first.now.signers c.args.second.now.signers c.in-Ok.both
    c.args.first.now.value.items c.args.second.now.value.items h k
    (rw (c.deref.ensures.value, c.deref-2.ensures.value) at (c.in_ok-check_values.ensures.contradict.0 refl)) c.in-Ok.ensures.both

pub returns-in-Err-Outside-clause-no_slot : goal.returns-in-Err-Outside-clause-no_slot
returns-in-Err-Outside-clause-no_slot g c = (
  λ never. absurd (cc never),
  λ none. absurd (slots_from_contradict (rw (c.deref.ensures.value, c.deref-2.ensures.value) at (c.in_ok-check_values.ensures.contradict.0 refl)) none),
)

pub returns-in-Err-TooFew-clause-no_slot : goal.returns-in-Err-TooFew-clause-no_slot
returns-in-Err-TooFew-clause-no_slot g c = (
  λ never. absurd (cc never),
  λ none. absurd (slots_from_contradict (rw (c.deref.ensures.value, c.deref-2.ensures.value) at (c.in_ok-check_values.ensures.contradict.0 refl)) none),
)

pub returns-in-Err-Memory-clause-no_slot : goal.returns-in-Err-Memory-clause-no_slot
returns-in-Err-Memory-clause-no_slot g c = (
  λ never. absurd (cc never),
  λ none. absurd (slots_from_contradict (rw (c.deref.ensures.value, c.deref-2.ensures.value) at (c.in_ok-check_values.ensures.contradict.0 refl)) none),
)
