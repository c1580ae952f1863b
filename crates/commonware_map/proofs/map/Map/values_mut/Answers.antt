use Rattle.std.proofs.Common.{refl, ◌∙◌}
use Rattle.std.specs.List.{zip, refill}
use Rattle.commonware_map.proofs.Columns.{opened}
use Rattle.commonware_map.proofs.map.Map.values_mut.Goals as goal

pub returns : goal.returns
returns g c =
    let o = opened _ _ _ c.self.view_is c.self.invariant in (
      (refl, λ w j. zip (o.keys j) (refill ((c.self.inside.values.ok.0 ∙ o.values_length) j) (o.values j) w)),
      record { writes_back = tt; value = c.as_mut_slice.ensures.value ∙ o.values },
    )
