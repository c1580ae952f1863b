use Rattle.std.proofs.Common.{sym, ◌∙◌, arith}
use Rattle.std.specs.List.{zip, refill}
use Rattle.commonware_map.proofs.Columns.{opened}
use Rattle.commonware_map.proofs.Stepped.{lent_in_order, lent_in_reverse}
use Rattle.commonware_map.proofs.map.Map.iter_pairs_mut.Goals as goal

pub returns : goal.returns
returns g c =
    let o = opened _ _ _ c.self.view_is c.self.invariant in
    let values = c.self.inside.values in (
      (sym c.new.ensures.name, λ w j. zip (o.keys j) (refill ((values.ok.0 ∙ o.values_length) j) (o.values j) w)),
      record {
        writes_back = tt;
        ready = c.new.ensures.ready;
        pairs = c.new.ensures.left ∙ (λ j. zip (c.as_slice.ensures.items j) (c.as_mut_slice.ensures.value j)) ∙ o.entries;
        bound = omega (arith, o.values_length, values.ok.0, values.small);
        runs = lent_in_order;
        runs_back = lent_in_reverse;
      },
    )
