use Rattle.std.proofs.Common.{ap, subst, length, ◌∙◌}
use Rattle.commonware_ordered.specs.Strict.{IsStrict}
use Rattle.commonware_map.proofs.Columns.{opened}
use Rattle.commonware_map.proofs.map.Map.len.Goals as goal

pub returns : goal.returns
returns g c =
    let o = opened _ _ _ c.self.view_is c.self.invariant in
    record { len = ap length c.as_slice.ensures.items ∙ o.keys_length; strict = subst (IsStrict g.K.Order.order) o.keys c.as_slice.ensures.strict }
