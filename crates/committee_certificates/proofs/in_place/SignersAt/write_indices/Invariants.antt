use Rattle.std.proofs.Common.{ℕ, ◌+◌, ◌≤◌, List}
use Rattle.committee_certificates.specs.InPlace.{AreSignersAt}
use Rattle.committee_certificates.proofs.Walked.{IsPassed}
use Rattle.committee_certificates.proofs.in_place.SignersAt.write_indices.Given as goal

abbrev pub invariant-loop-cursor : goal.invariant-loop-cursor
invariant-loop-cursor l =
    (l.count + l.cursor.left ≤ l.self.count)
    × ((indices : List ℕ) → AreSignersAt l.self indices → IsPassed indices l.cursor l.count l.fn.out l.out)

abbrev pub decreases-loop-cursor : goal.decreases-loop-cursor
decreases-loop-cursor l = l.cursor.left
