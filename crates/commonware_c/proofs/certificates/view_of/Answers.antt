use Rattle.std.proofs.Common.{arith, length}
use Rattle.commonware_base.specs.laws.VarintLaws.{varint-length}
use Rattle.commonware_c.proofs.certificates.view_of.Goals as goal

pub encode_size-requires-clause-fits : goal.encode_size-requires-clause-fits
encode_size-requires-clause-fits c = omega (arith, varint-length (length c.args.value.now) c.requires.value_short)
