use Rattle.commonware_base.specs.laws.VarintLaws.{varint_is, varint_only}
use Rattle.commonware_base.proofs.codec.laws.varint_law.Goals as goal

pub returns-clause-encoded : goal.returns-clause-encoded
returns-clause-encoded c = varint_is

pub returns-clause-only : goal.returns-clause-only
returns-clause-only c = varint_only
