use Rattle.std.proofs.Common.{subst}
use Rattle.std.specs.List.Sorted.{IsStrictlySortedBy}
use Rattle.commonware_map.proofs.Columns.{opened}
use Rattle.commonware_map.proofs.sorted_entries.run.Run.into_columns.Goals as goal

pub returns-clause-keys : goal.returns-clause-keys
returns-clause-keys g c = (opened _ _ _ c.self.view_is c.self.invariant.0).keys

pub returns-clause-values : goal.returns-clause-values
returns-clause-values g c = (opened _ _ _ c.self.view_is c.self.invariant.0).values

pub returns-clause-strict : goal.returns-clause-strict
returns-clause-strict g c = subst (IsStrictlySortedBy g.K.Ord.cmp) (opened _ _ _ c.self.view_is c.self.invariant.0).keys c.self.invariant.1
