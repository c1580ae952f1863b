use Rattle.std.proofs.Common.{length}
use Rattle.committee_weights.proofs.greatest.+least_unsafe.Given as goal

abbrev pub decreases-least_unsafe : goal.decreases-least_unsafe
decreases-least_unsafe l = length l.rest.now
