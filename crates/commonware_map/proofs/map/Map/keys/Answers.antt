use Rattle.commonware_map.proofs.Columns.{opened}
use Rattle.commonware_map.proofs.map.Map.keys.Goals as goal

pub returns : goal.returns
returns g c = (opened _ _ _ c.self.view_is c.self.invariant).keys
