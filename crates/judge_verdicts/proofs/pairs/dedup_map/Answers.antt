use Rattle.commonware_utils.specs.Ordered.{IsDedup, on_keys}
use Rattle.judge_verdicts.proofs.Taken.{made_of_list}
use Rattle.judge_verdicts.proofs.pairs.dedup_map.Goals as goal

pub returns : goal.returns
returns g c = made_of_list (IsDedup (on_keys g.K.PartialEq.eq) (on_keys g.K.Ord.cmp)) c.args.pairs c.from_iter_dedup.result c.from_iter_dedup.ensures.dedup
