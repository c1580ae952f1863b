use Rattle.std.proofs.Common.{◌∙◌}
use Rattle.commonware_ordered.specs.laws.PlaceLaws.{found-place}
use Rattle.commonware_ordered.proofs.set.Set.contains_counted.Goals as goal

pub returns-clause-value : goal.returns-clause-value
returns-clause-value g c =
    c.is_some.ensures ∙ found-place g.T.Order.same _ c.args.item.now _ c.position_counted.ensures.place
