use Rattle.judge_verdicts.proofs.Writable.{all_writable, dedup_writable}
use Rattle.judge_verdicts.proofs.sets.make_set.Goals as goal

pub bytes_of-requires : goal.bytes_of-requires
bytes_of-requires g c = all_writable g.met.T.Ord.total g.T.EncodeSize.writable g.T.PartialEq.eq c.args.items.items c.in-Ok.set c.requires c.in-Ok.ensures.whole

pub bytes_of-requires-2 : goal.bytes_of-requires-2
bytes_of-requires-2 g c = dedup_writable g.met.T.Ord.total g.T.EncodeSize.writable g.T.PartialEq.eq c.args.items.items c.in_ok-set.set c.requires c.in_ok-set.ensures
