use Rattle.std.proofs.Common.{◌∙◌}
use Rattle.std.specs.List.{zip}
use Rattle.std.specs.Map.Iter.{deref_pair}
use Rattle.commonware_map.proofs.Columns.{zip-parts}
use Rattle.commonware_map.proofs.Stepped.{shown_in_order, shown_in_reverse}
use Rattle.commonware_map.proofs.map.Map.iter_pairs.Goals as goal

pub returns-clause-pairs : goal.returns-clause-pairs
returns-clause-pairs g c = c.new.ensures ∙ (λ j. zip ((c.as_slice.ensures.items ∙ c.keys.ensures) j) (c.values.ensures j)) ∙ zip-parts c.args.self.now

pub returns-clause-runs : goal.returns-clause-runs
returns-clause-runs g c = shown_in_order deref_pair

pub returns-clause-runs_back : goal.returns-clause-runs_back
returns-clause-runs_back g c = shown_in_reverse deref_pair
