use Rattle.std.proofs.Common.{◌+◌, arith, ap, length, refl}
use Rattle.commonware_base.specs.laws.VarintLaws.{varint-length}
use Rattle.commonware_c.specs.Checks.{slot_in}
use Rattle.commonware_c.proofs.checks.view_of.Goals as goal

pub encode_size-value_start-requires-clause-fits : goal.encode_size-value_start-requires-clause-fits
encode_size-value_start-requires-clause-fits c =
    omega (arith, varint-length (length c.args.certificate.now.value.now) c.requires)

pub overflow_add-view : goal.overflow_add-view
overflow_add-view c =
    omega (
      arith,
      c.encode_size-value_start.ensures,
      c.encode_size.ensures,
      varint-length (length c.args.certificate.now.value.now) c.requires,
      varint-length (length c.in-Some.slot.now) c.in-Some.ensures.found.short,
    )

pub overflow_add-view-in-Some : goal.overflow_add-view-in-Some
overflow_add-view-in-Some c =
    omega (
      arith,
      c.encode_size-value_start.ensures,
      c.encode_size.ensures,
      varint-length (length c.args.certificate.now.value.now) c.requires,
      varint-length (length c.in-Some.slot.now) c.in-Some.ensures.found.short,
      c.in-Some.ensures.found.short,
    )

pub returns-in-Some-clause-slot : goal.returns-in-Some-clause-slot
returns-in-Some-clause-slot c =
    slot_in c.in-Some.slot.now c.in-Some.decision.now c.in-Some.ensures.found
    (ap (λ n. c.encode_size-value_start.result + n) c.encode_size.ensures) refl refl refl
