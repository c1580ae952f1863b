-- One less than the least number at which two subsets share too little.
use Rattle.committee_weights.proofs.Searching.{at_least_for_all, greatest_found}
use Rattle.committee_weights.proofs.greatest.greatest_safe.Goals as goal

pub overflow_sub-result : goal.overflow_sub-result
overflow_sub-result g c =
    let found = c.least_unsafe-least.ensures in
    (greatest_found c.args.k c.as_slice.result.now c.args.weights.now c.total.result c.least_unsafe-least.result
    c.as_slice.ensures.value c.total.ensures.value c.total.ensures.are_weights.are_weights found.found found.least).0

pub returns-clause-greatest : goal.returns-clause-greatest
returns-clause-greatest g c =
    let found = c.least_unsafe-least.ensures in
    (greatest_found c.args.k c.as_slice.result.now c.args.weights.now c.total.result c.least_unsafe-least.result
    c.as_slice.ensures.value c.total.ensures.value c.total.ensures.are_weights.are_weights found.found found.least).1

pub returns-clause-at_least : goal.returns-clause-at_least
returns-clause-at_least g c =
    at_least_for_all c.args.k c.args.weights.now _ c.requires.resilience c.total.ensures.are_weights.are_weights
    (returns-clause-greatest g c)
