-- Twice f and one more is at most the total, which fits.
use Rattle.std.proofs.Common.{arith}
use Rattle.committee_weights.proofs.weights.Weights.smaller_quorum_weight.Goals as goal

pub overflow_mul-result : goal.overflow_mul-result
overflow_mul-result g c =
    let h = c.max_faulty_weight.ensures in
    omega (arith, h.tolerance.least_m.at_most, h.are_weights.fits)

pub overflow_add-result : goal.overflow_add-result
overflow_add-result g c =
    let h = c.max_faulty_weight.ensures in
    omega (arith, h.tolerance.least_m.at_most, h.are_weights.fits)
