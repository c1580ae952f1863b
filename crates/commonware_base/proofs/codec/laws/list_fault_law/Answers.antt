use Rattle.commonware_base.specs.laws.ListLaws.{list_cases_exclude}
use Rattle.commonware_base.proofs.codec.laws.list_fault_law.Goals as goal

pub returns : goal.returns
returns g c = list_cases_exclude g.T.EncodeSize.enc g.T.EncodeSize.writable g.met.T.EncodeSize.prefix_free (g.T.Read.allowed c.args.item.now) (g.T.Read.fault c.args.item.now) c.args.range (g.met.T.Read.read_laws c.args.alloc c.args.item.now)
