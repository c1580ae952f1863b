use Rattle.commonware_map.proofs.map.Map.position_counted.Goals as goal

pub returns-clause-only : goal.returns-clause-only
returns-clause-only g c = λ p. rw (← c.keys.ensures) (c.position_counted.ensures.only p)
