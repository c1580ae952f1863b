use Rattle.std.proofs.Common.{rules}
use Rattle.commonware_map.proofs.Entries.{put_where_none, put_where_some}
use Rattle.commonware_map.proofs.sorted_entries.tree.put.Goals as goal

pub returns-in-Vacant-clause-put : goal.returns-in-Vacant-clause-put
returns-in-Vacant-clause-put g c = put_where_none g.K.Ord.cmp _ _ _ _ (search rules) (search rules)

pub returns-in-Occupied-clause-put : goal.returns-in-Occupied-clause-put
returns-in-Occupied-clause-put g c = put_where_some g.K.Ord.cmp g.met.K.Ord.total c.args.tree.now.entries _ c.args.key c.args.value c.into_mut.result.now c.in_ok-place.ensures.ordered (search rules) (search rules)
