use Rattle.std.proofs.Common.{sym, ◌∙◌}
use Rattle.std.specs.Map.Iter.{deref_pair}
use Rattle.commonware_map.proofs.Stepped.{last_pair, last_progress}
use Rattle.std.proofs.Common.{arith}
use Rattle.std.proofs.lemmas.Grind.{common_steps}
use Rattle.commonware_map.proofs.iterators.pairs.PairsDoubleEndedIterator.next_back.Goals as goal

pub returns-clause-steps : goal.returns-clause-steps
returns-clause-steps g c = sym c.self.view_is ∙ last_pair _ _ _ _ _ _ c.in_ok-key.ensures.steps c.in_ok-value.ensures.steps c.self.invariant

pub returns-clause-goes : goal.returns-clause-goes
returns-clause-goes g c = last_progress deref_pair _ _ _ (sym c.self.view_is ∙ last_pair _ _ _ _ _ _ c.in_ok-key.ensures.steps c.in_ok-value.ensures.steps c.self.invariant)

pub returns-in_err-key-clause-steps : goal.returns-in_err-key-clause-steps
returns-in_err-key-clause-steps g c = grind (arith, common_steps)

pub invariant_of-self-2 : goal.invariant_of-self-2
invariant_of-self-2 g c = grind (arith, common_steps)
