use Rattle.commonware_ordered.proofs.IncreasingKeys.{run_none}
use Rattle.commonware_map.proofs.sorted_entries.run.Run.new.Goals as goal

pub invariant_of-result : goal.invariant_of-result
invariant_of-result g c = run_none g.met.K.Ord.total c.new.result.items c.new-2.result.items c.new.ensures.items c.new-2.ensures.items
