use Rattle.std.proofs.Common.{arith, subst}
use Rattle.commonware_base.specs.Varint.{varint_fault}
use Rattle.commonware_base.specs.Refusal.{Refuses}
use Rattle.committee_certificates.proofs.SlotLemmas.{no_slot_from_refusal, no_slot_from_short, rest_of_new, text_of, slot_found, slot_only}
use Rattle.committee_certificates.proofs.slots.slot_of.Goals as goal

pub returns-in_default-clause-none : goal.returns-in_default-clause-none
returns-in_default-clause-none c =
    let all = rest_of_new c.new-source.result c.args.value.now c.new-source.ensures.bytes c.new-source.ensures.position in
    no_slot_from_refusal c.args.value.now c.in_default.field-0
    (subst (λ t. Refuses (varint_fault t) (Unit {0}) c.in_default.field-0) all c.in_default.ensures.refused)

pub returns-then-rest-length-clause-none : goal.returns-then-rest-length-clause-none
returns-then-rest-length-clause-none c =
    no_slot_from_short c.args.value.now c.rest-rest.result.now c.in-Ok.length (text_of c.new-source.result c.read_varint.new.src c.args.value.now c.rest-rest.result.now c.in-Ok.length
    c.new-source.ensures.bytes c.new-source.ensures.position c.in-Ok.ensures.consumed c.rest-rest.ensures) c.in-Ok.ensures.fits
    c.if-rest-length.true

pub returns-clause-found : goal.returns-clause-found
returns-clause-found c =
    slot_found c.args.value.now c.rest-rest.result.now c.in-Ok.length (text_of c.new-source.result c.read_varint.new.src c.args.value.now c.rest-rest.result.now c.in-Ok.length
    c.new-source.ensures.bytes c.new-source.ensures.position c.in-Ok.ensures.consumed c.rest-rest.ensures) c.in-Ok.ensures.fits
    (omega (arith, c.if-rest-length.false))

pub returns-clause-only : goal.returns-clause-only
returns-clause-only c slot decision h = slot_only _ _ _ slot decision (returns-clause-found c) h
