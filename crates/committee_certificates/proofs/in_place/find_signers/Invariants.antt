use Rattle.committee_certificates.proofs.Counted.{CountedSoFar}
use Rattle.committee_certificates.proofs.in_place.find_signers.Given as goal

abbrev pub invariant-loop : goal.invariant-loop
invariant-loop l = CountedSoFar l.fn.range l.count l.counter l.fn.src l.here l.past l.rising
