use Rattle.std.proofs.Common.{◌∙◌, ap, length, sym}
use Rattle.commonware_views.proofs.Pairs.{pairs_number}
use Rattle.commonware_views.proofs.map.MapView.len.Goals as goal

pub returns : goal.returns
returns c =
    let v = c.self.inside in
    c.len.ensures ∙ sym (pairs_number v.keys v.values c.self.invariant) ∙ ap length c.self.view_is
