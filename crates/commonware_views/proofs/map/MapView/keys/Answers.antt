use Rattle.std.proofs.Common.{◌∙◌, ap, sym}
use Rattle.std.specs.Map.{keys_of}
use Rattle.std.proofs.lemmas.Map.Made.{keys_of-zip}
use Rattle.commonware_views.proofs.map.MapView.keys.Goals as goal

pub returns : goal.returns
returns c = sym (keys_of-zip c.self.inside.keys c.self.inside.values c.self.invariant) ∙ ap keys_of c.self.view_is
