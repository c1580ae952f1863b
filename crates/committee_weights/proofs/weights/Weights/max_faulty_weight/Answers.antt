-- The total is the sum of the weights.
use Rattle.std.proofs.Common.{◌≡◌, ◌≤◌, ◌∙◌, ap, ℕ, List, sum, subst, sym}
use Rattle.committee_weights.specs.Tolerance.{IsWeightTolerance}
use Rattle.committee_weights.specs.Weights.{AreWeights}
use Rattle.committee_weights.proofs.Sharing.{some_weight}
use Rattle.committee_weights.proofs.weights.Weights.max_faulty_weight.Goals as goal

pub tolerated_weight-requires-clause-some : goal.tolerated_weight-requires-clause-some
tolerated_weight-requires-clause-some g c =
    let total : sum c.args.self.now ≡ c.self.inside.total =
    sym (c.self.invariant.1 ∙ ap (λ (l : List ℕ). sum l) c.self.view_is) in
    let are : AreWeights c.args.self.now = subst AreWeights c.self.view_is c.self.invariant.0.are_weights in
    subst (λ (t : ℕ). 1 ≤ t) total (some_weight c.args.self.now are)

pub returns-clause-tolerance : goal.returns-clause-tolerance
returns-clause-tolerance g c =
    let total : c.self.inside.total ≡ sum c.args.self.now = c.self.invariant.1 ∙ ap (λ (l : List ℕ). sum l) c.self.view_is in
    subst (λ (t : ℕ). IsWeightTolerance c.args.k t c.tolerated_weight.result) total c.tolerated_weight.ensures.tolerance
