use Rattle.std.proofs.Common.{take, ap, ◌∙◌}
use Rattle.std.specs.List.{zip}
use Rattle.commonware_map.proofs.Columns.{opened, zip-take}
use Rattle.commonware_map.proofs.map.Map.truncate.Goals as goal

pub returns : goal.returns
returns g c =
    let o = opened _ _ _ c.self.view_is c.self.invariant in
    (λ j. zip (c.truncate.ensures j) (c.truncate-2.ensures.items j)) ∙ zip-take _ _ _ ∙ ap (take c.args.len) o.entries
