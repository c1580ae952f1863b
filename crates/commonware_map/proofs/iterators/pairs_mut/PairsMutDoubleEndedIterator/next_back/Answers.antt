use Rattle.commonware_map.proofs.Stepped.{even_before, last_pair, one_less}
use Rattle.commonware_map.proofs.iterators.pairs_mut.PairsMutDoubleEndedIterator.next_back.Goals as goal

pub returns-clause-steps : goal.returns-clause-steps
returns-clause-steps g c =
    let keys = c.in_ok-key.ensures.steps in
    let values = c.in_ok-value.ensures.steps in
    (last_pair _ _ _ _ _ _ keys values c.requires, even_before _ _ _ _ _ _ keys values c.requires)

pub returns-clause-goes : goal.returns-clause-goes
returns-clause-goes g c =
    let keys = c.in_ok-key.ensures.steps in
    let values = c.in_ok-value.ensures.steps in
    let even = even_before _ _ _ _ _ _ keys values c.requires in
    record { on = λ _. (even, tt, one_less _ _ _ (last_pair _ _ _ _ _ _ keys values c.requires)); keeps = even; rests = λ _. tt }
