use Rattle.std.proofs.Common.{arith, length}
use Rattle.commonware_base.proofs.UnionLemmas.{union_only}
use Rattle.commonware_base.specs.laws.VarintLaws.{varint-length}
use Rattle.commonware_base.proofs.unions.union_unique.Goals as goal

pub encode_size-requires-clause-fits : goal.encode_size-requires-clause-fits
encode_size-requires-clause-fits g c = omega (arith, varint-length (length c.args.namespace.now) c.requires)

pub overflow_add-encode_size : goal.overflow_add-encode_size
overflow_add-encode_size g c = omega (arith, varint-length (length c.args.namespace.now) c.requires, c.encode_size.ensures)

pub overflow_add-encode_size-2 : goal.overflow_add-encode_size-2
overflow_add-encode_size-2 g c = omega (arith, varint-length (length c.args.namespace.now) c.requires, c.encode_size.ensures)

pub returns-in_err-union-clause-unique : goal.returns-in_err-union-clause-unique
returns-in_err-union-clause-unique g c n m p = union_only n c.args.namespace.now m c.args.msg.now p c.requires

pub returns-in_err-write-clause-unique : goal.returns-in_err-write-clause-unique
returns-in_err-write-clause-unique g c n m p = union_only n c.args.namespace.now m c.args.msg.now p c.requires

pub returns-in_err-extend_from_slice-clause-unique :
    goal.returns-in_err-extend_from_slice-clause-unique
returns-in_err-extend_from_slice-clause-unique g c n m p = union_only n c.args.namespace.now m c.args.msg.now p c.requires

pub returns-in_err-extend_from_slice-2-clause-unique :
    goal.returns-in_err-extend_from_slice-2-clause-unique
returns-in_err-extend_from_slice-2-clause-unique g c n m p = union_only n c.args.namespace.now m c.args.msg.now p c.requires

pub returns-clause-unique : goal.returns-clause-unique
returns-clause-unique g c n m p = union_only n c.args.namespace.now m c.args.msg.now p c.requires
