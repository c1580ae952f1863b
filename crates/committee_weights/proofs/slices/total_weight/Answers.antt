-- A list is accepted, or refused for one reason.
use Rattle.committee_weights.proofs.Refusing.{exactly_accepted, exactly_refused, without_total}
use Rattle.committee_weights.proofs.slices.total_weight.Goals as goal

pub returns-clause-accepted : goal.returns-clause-accepted
returns-clause-accepted c =
    let ws = c.args.weights.now in
    exactly_accepted ws c.total_of.result (without_total ws c.total_of.result c.total_of.ensures)

pub returns-clause-refused : goal.returns-clause-refused
returns-clause-refused c =
    let ws = c.args.weights.now in
    exactly_refused ws c.total_of.result (without_total ws c.total_of.result c.total_of.ensures)
