use Rattle.std.proofs.Common.{ap, length, subst, sym, ◌∙◌, ◌-◌, arith}
use Rattle.std.specs.List.{zip}
use Rattle.std.specs.List.Sorted.{IsStrictlySortedBy}
use Rattle.commonware_map.proofs.Columns.{opened}
use Rattle.commonware_ordered.proofs.IncreasingKeys.{run_last}
use Rattle.commonware_map.proofs.sorted_entries.run.Run.last_to.Goals as goal

pub returns-in-Some : goal.returns-in-Some
returns-in-Some g c =
    let is = c.deref.ensures.value in
    let whole = opened _ _ _ c.self.view_is c.self.invariant.0 in
    let keys = c.deref.result.now in
    let item = c.in-Some.ensures.item in
    run_last g.met.K.Ord.total keys c.self.inside.values.items c.args.self.now c.args.key.now c.in-Some.last.now (length keys - 1) c.cmp.result
    (ap (λ l. zip l c.self.inside.values.items) is ∙ c.self.view_is) (c.self.invariant.0 ∙ sym (ap length is)) (subst (IsStrictlySortedBy g.K.Ord.cmp) (sym is) c.self.invariant.1)
    (omega (arith, item.3.0)) item.3.1 c.cmp.ensures (sym (is ∙ whole.keys))
