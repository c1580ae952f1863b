use Rattle.commonware_map.specs.laws.MapLaws.{map_one_case}
use Rattle.commonware_map.proofs.map.codec.map_fault_law.Goals as goal

pub returns : goal.returns
returns g c =
    map_one_case g.K.EncodeSize.enc g.K.EncodeSize.writable g.K.Ord.cmp g.met.K.EncodeSize.prefix_free g.V.EncodeSize.enc g.V.EncodeSize.writable g.met.V.EncodeSize.prefix_free
    g.K.PartialEq.eq g.met.K.Ord.total g.met.K.Ord.matches_eq g.met.K.Canonical.canonical c.args.range (g.K.Read.allowed c.args.key.now) (g.K.Read.fault c.args.key.now)
    (g.V.Read.allowed c.args.value.now) (g.V.Read.fault c.args.value.now) (g.met.K.Read.read_laws c.args.alloc c.args.key.now) (g.met.V.Read.read_laws c.args.alloc c.args.value.now)
