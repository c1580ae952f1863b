use Rattle.std.proofs.Common.{◌∙◌}
use Rattle.commonware_map.proofs.Columns.{opened}
use Rattle.commonware_map.proofs.map.Map.values.Goals as goal

pub returns : goal.returns
returns g c = c.as_slice.ensures.value ∙ (opened _ _ _ c.self.view_is c.self.invariant).values
