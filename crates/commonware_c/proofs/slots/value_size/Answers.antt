use Rattle.std.proofs.Common.{arith, length}
use Rattle.commonware_base.specs.laws.VarintLaws.{varint-length}
use Rattle.commonware_c.proofs.slots.value_size.Goals as goal

pub encode_size-requires-clause-fits : goal.encode_size-requires-clause-fits
encode_size-requires-clause-fits c = omega (arith, varint-length (length c.args.slot.now) c.requires.slot_short)

pub overflow_add-result : goal.overflow_add-result
overflow_add-result c =
    omega (arith, varint-length (length c.args.slot.now) c.requires.slot_short, c.encode_size.ensures, c.requires.slot_short)

pub overflow_add-result-2 : goal.overflow_add-result-2
overflow_add-result-2 c =
    omega (
      arith,
      varint-length (length c.args.slot.now) c.requires.slot_short,
      c.encode_size.ensures,
      c.requires.slot_short,
      c.requires.decision_short,
    )
