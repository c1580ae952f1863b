use Rattle.std.proofs.Common.{ℕ, ◌^◌, ◌<◌, List}
use Rattle.committee_certificates.specs.InPlace.{AreSignersAt}
use Rattle.committee_certificates.proofs.Summed.{IsSummed}
use Rattle.committee_certificates.proofs.in_place.SignersAt.sum_of.Given as goal

abbrev pub invariant-loop-cursor : goal.invariant-loop-cursor
invariant-loop-cursor l =
    (l.sum < 2 ^ 64) × (l.cursor.index < 2 ^ 32)
    × ((indices : List ℕ) → AreSignersAt l.self indices → IsSummed l.numbers indices l.cursor l.sum)

abbrev pub decreases-loop-cursor : goal.decreases-loop-cursor
decreases-loop-cursor l = l.cursor.left
