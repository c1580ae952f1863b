use Rattle.std.proofs.Common.{◌∙◌, ap, sym}
use Rattle.std.specs.Map.{values_of}
use Rattle.commonware_map.proofs.Columns.{values_of-zip}
use Rattle.commonware_views.proofs.map.MapView.values.Goals as goal

pub returns : goal.returns
returns c = sym (values_of-zip c.self.inside.keys c.self.inside.values c.self.invariant) ∙ ap values_of c.self.view_is
