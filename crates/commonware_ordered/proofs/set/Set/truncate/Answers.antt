use Rattle.commonware_ordered.proofs.Places.{strict_take}
use Rattle.commonware_ordered.proofs.set.Set.truncate.Goals as goal

pub invariant_of-self : goal.invariant_of-self
invariant_of-self g c = rw c.truncate.ensures.items (strict_take g.T.Order.order _ _ c.self.invariant)
