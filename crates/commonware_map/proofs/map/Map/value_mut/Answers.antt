use Rattle.std.proofs.Common.{refl, ap, subst, ◌∙◌, ◌≡◌, get_or, arith}
use Rattle.commonware_map.specs.Borrows.{set_value_at}
use Rattle.commonware_map.proofs.Columns.{opened, zip-set_value_at}
use Rattle.commonware_map.proofs.map.Map.value_mut.Goals as goal

pub index_mut-requires : goal.index_mut-requires
index_mut-requires g c = omega (arith, (opened _ _ _ c.self.view_is c.self.invariant).values_length, c.requires, c.self.inside.values.ok.0)

pub returns : goal.returns
returns g c =
    let o = opened _ _ _ c.self.view_is c.self.invariant in
    let v = c.index_mut.result.now in (
      (refl, λ w. zip-set_value_at c.self.inside.keys c.self.inside.values.items c.args.index w ∙ ap (λ es. set_value_at es c.args.index w) o.entries),
      record { writes_back = tt; value = subst (λ l. v ≡ get_or l c.args.index v) o.values c.index_mut.ensures.value },
    )
