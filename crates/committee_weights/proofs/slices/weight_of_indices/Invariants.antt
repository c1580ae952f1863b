use Rattle.std.proofs.Common.{◌≡◌, length, take}
use Rattle.std.specs.List.{sum_by}
use Rattle.committee_certificates.specs.Signers.{AreMembers}
use Rattle.committee_weights.proofs.Listed.{weight_at}
use Rattle.committee_weights.proofs.slices.weight_of_indices.Given as goal

abbrev pub invariant-loop-index : goal.invariant-loop-index
invariant-loop-index l =
    (l.weight ≡ sum_by (weight_at l.weights) (take l.index-index l.indices))
    × AreMembers (length l.weights) (take l.index-index l.indices)
