-- A list is refused for one reason.
use Rattle.std.proofs.Common.{Err, List, subst, ℕ}
use Rattle.committee_weights.specs.Refusals.{IsRefusedAs}
use Rattle.committee_weights.proofs.Refusing.{exactly_refused}
use Rattle.committee_weights.proofs.weights.Weights.new.Goals as goal

pub returns-in-Err-clause-refused : goal.returns-in-Err-clause-refused
returns-in-Err-clause-refused g c =
    let refused = subst (λ (ws : List ℕ). IsRefusedAs ws c.in-Err.error) c.as_slice.ensures.value c.in-Err.ensures in
    exactly_refused c.args.items.items (Err c.in-Err.error) refused
