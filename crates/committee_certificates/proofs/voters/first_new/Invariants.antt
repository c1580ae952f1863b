use Rattle.std.proofs.Common.{take}
use Rattle.std.specs.List.{All, Contains}
use Rattle.committee_certificates.proofs.voters.first_new.Given as goal

abbrev pub invariant-loop-participant : goal.invariant-loop-participant
invariant-loop-participant g l = All (Contains l.fn.known) (take l.participant-index l.fn.accused)
