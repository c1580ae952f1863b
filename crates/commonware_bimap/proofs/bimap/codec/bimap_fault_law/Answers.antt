use Rattle.commonware_bimap.specs.laws.BiMapLaws.{bimap_one_case}
use Rattle.commonware_bimap.proofs.bimap.codec.bimap_fault_law.Goals as goal

pub returns : goal.returns
returns g c =
    bimap_one_case g.K.EncodeSize.enc g.K.EncodeSize.writable g.K.Ord.cmp g.met.K.EncodeSize.prefix_free g.V.EncodeSize.enc g.V.EncodeSize.writable g.met.V.EncodeSize.prefix_free
    g.K.PartialEq.eq g.met.K.Ord.total g.met.K.Ord.matches_eq g.met.K.Canonical.canonical g.V.PartialEq.eq g.met.V.Eq.laws g.met.V.Canonical.canonical
    c.args.range (g.K.Read.allowed c.args.key.now) (g.K.Read.fault c.args.key.now) (g.V.Read.allowed c.args.value.now) (g.V.Read.fault c.args.value.now)
    (g.met.K.Read.read_laws c.args.alloc c.args.key.now) (g.met.V.Read.read_laws c.args.alloc c.args.value.now)
