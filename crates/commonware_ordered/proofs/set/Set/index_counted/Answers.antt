-- The participant's index is the place of the equal item.
use Rattle.commonware_ordered.proofs.set.Set.index_counted.Goals as goal

pub returns-clause-only : goal.returns-clause-only
returns-clause-only g c = rw c.from_usize.ensures c.in_ok-place.ensures.only
