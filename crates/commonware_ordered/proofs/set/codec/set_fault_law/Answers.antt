use Rattle.commonware_ordered.specs.laws.SetLaws.{set_one_case}
use Rattle.commonware_ordered.proofs.set.codec.set_fault_law.Goals as goal

pub returns : goal.returns
returns g c = set_one_case g.T.EncodeSize.enc g.T.EncodeSize.writable g.T.Ord.cmp g.met.T.EncodeSize.prefix_free g.T.PartialEq.eq g.met.T.Ord.total g.met.T.Ord.matches_eq g.met.T.Canonical.canonical (g.T.Read.allowed c.args.item.now) (g.T.Read.fault c.args.item.now) c.args.range (g.met.T.Read.read_laws c.args.alloc c.args.item.now)
