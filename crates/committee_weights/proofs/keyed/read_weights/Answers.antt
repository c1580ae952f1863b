-- Where weights are copied, the keys were.
use Rattle.std.proofs.Common.{ap, Err}
use Rattle.commonware_base.specs.Source.{rest_of}
use Rattle.committee_weights.proofs.KeyedReads.{reading_allocates}
use Rattle.committee_weights.proofs.keyed.read_weights.Goals as goal

pub returns-clause-refused : goal.returns-clause-refused
returns-clause-refused g c =
    let key = c.args.limits.now.1 in
    reading_allocates g.K.EncodeSize.enc g.K.EncodeSize.writable g.K.Ord.cmp (g.K.Read.allowed key)
    (g.K.Read.fault key) c.args.limits.now.0 (g.met.K.Read.read_laws c.args.alloc key) (g.K.Read.memory_free key)
    (rest_of c.args.src.now) c.in-Ok.map (rest_of c.read_cfg.new.src) c.in-Ok.ensures.accepted
    (c.in-Err-Memory.ensures.memory (ap Err c.in-Err-Memory.field-0-is))
