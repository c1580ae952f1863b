use Rattle.std.proofs.Common.{subst}
use Rattle.commonware_ordered.specs.Costs.{StopsAtFault}
use Rattle.commonware_ordered.proofs.set.Set.checked.Goals as goal

pub returns-else-are_strict-clause-stops : goal.returns-else-are_strict-clause-stops
returns-else-are_strict-clause-stops g c =
    subst (λ xs. StopsAtFault g.T.Order.order xs (g.C.Counter.counted c.args.count.now) (g.C.Counter.counted c.are_strict.new.count)) c.as_slice.ensures.value c.are_strict.ensures.stops
