use Rattle.commonware_bimap.proofs.bimap.BiMap.position_counted.Goals as goal

pub returns-clause-only : goal.returns-clause-only
returns-clause-only g c = λ p. rw (← c.self.view_is) (c.position_counted.ensures.only p)
