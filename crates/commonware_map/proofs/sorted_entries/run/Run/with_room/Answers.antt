use Rattle.commonware_ordered.proofs.IncreasingKeys.{run_none}
use Rattle.commonware_map.proofs.sorted_entries.run.Run.with_room.Goals as goal

pub invariant_of-result : goal.invariant_of-result
invariant_of-result g c =
    run_none g.met.K.Ord.total c.in_ok-with_capacity.field-0.items c.in_ok-with_capacity-2.field-0.items c.in_ok-with_capacity.ensures.items c.in_ok-with_capacity-2.ensures.items
