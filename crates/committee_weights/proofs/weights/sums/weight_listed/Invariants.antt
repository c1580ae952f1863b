use Rattle.std.proofs.Common.{◌≡◌, length, take}
use Rattle.std.specs.List.{sum_by}
use Rattle.committee_certificates.specs.Signers.{AreMembers}
use Rattle.committee_weights.proofs.Listed.{weight_at}
use Rattle.committee_weights.proofs.weights.sums.weight_listed.Given as goal

abbrev pub invariant-loop-participant : goal.invariant-loop-participant
invariant-loop-participant l =
    (l.weight ≡ sum_by (weight_at l.weights) (take l.participant-index l.listed))
    × AreMembers (length l.weights) (take l.participant-index l.listed)
