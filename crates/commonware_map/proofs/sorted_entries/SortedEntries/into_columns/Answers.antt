use Rattle.std.proofs.Common.{rules, subst, ◌∙◌}
use Rattle.std.specs.List.Sorted.{IsStrictlySortedBy}
use Rattle.commonware_ordered.proofs.Halves.{sorted_halves, strict_from_sorted}
use Rattle.commonware_ordered.proofs.IncreasingKeys.{keys_below_next}
use Rattle.commonware_map.proofs.Columns.{opened}
use Rattle.commonware_map.proofs.sorted_entries.SortedEntries.into_columns.Goals as goal

pub push-requires : goal.push-requires
push-requires g c =
    let cmp = g.K.Ord.cmp in
    let keys = (opened c.run.inside.keys.items c.run.inside.values.items c.self.inside.run (c.run.view_is ∙ c.reserve.ensures.same) c.run.invariant.0).keys in
    let sorted = sorted_halves cmp c.self.inside.run c.self.inside.tree.entries c.args.self c.self.view_is c.self.invariant (subst (IsStrictlySortedBy cmp) keys c.run.invariant.1) c.len.ensures.ordered in
    keys_below_next g.met.K.Ord.total c.loop-key.run (c.in-Some.key, c.in-Some.value) c.next.new.self c.args.self (search rules) sorted

pub returns-clause-strict : goal.returns-clause-strict
returns-clause-strict g c = strict_from_sorted g.K.Ord.cmp _ c.into_columns.result.0.items c.into_columns.ensures.keys c.into_columns.ensures.strict
