use Rattle.commonware_base.specs.Range.{as_numbers}
use Rattle.commonware_vec.specs.laws.NonEmptyLaws.{non_empty_one_case}
use Rattle.commonware_vec.proofs.non_empty.codec.non_empty_fault_law.Goals as goal

pub returns : goal.returns
returns g c = non_empty_one_case g.T.EncodeSize.enc g.T.EncodeSize.writable g.met.T.EncodeSize.prefix_free (g.T.Read.allowed c.args.item.now) (g.T.Read.fault c.args.item.now) (as_numbers c.args.range) (g.met.T.Read.read_laws c.args.alloc c.args.item.now)
