use Rattle.committee_weights.proofs.Refusing.{AreSummed}
use Rattle.committee_weights.proofs.weights.sums.total_of_values.Given as goal

abbrev pub invariant-loop-i : goal.invariant-loop-i
invariant-loop-i l = AreSummed l.values l.i l.total
