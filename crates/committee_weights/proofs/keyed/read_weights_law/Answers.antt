-- The laws of the keys give those of the weights.
use Rattle.committee_weights.proofs.KeyedReads.{keyed_laws}
use Rattle.committee_weights.proofs.keyed.read_weights_law.Goals as goal

pub returns : goal.returns
returns g c =
    keyed_laws g.K.EncodeSize.enc g.K.EncodeSize.writable g.K.Ord.cmp (g.K.Read.allowed c.args.key.now)
    (g.K.Read.fault c.args.key.now) c.args.range (g.met.K.Read.read_laws c.args.alloc c.args.key.now)
    g.met.K.EncodeSize.prefix_free g.K.PartialEq.eq g.met.K.Ord.total g.met.K.Ord.matches_eq
    g.met.K.Canonical.canonical
