use Rattle.commonware_map.proofs.Columns.{opened}
use Rattle.commonware_map.proofs.map.Map.into_columns.Goals as goal

pub returns : goal.returns
returns g c = let o = opened _ _ _ c.self.view_is c.self.invariant in (o.keys, o.values)
