-- Division is the weight tolerance of every k.
use Rattle.committee_weights.proofs.Safety.{weight_tolerance}
use Rattle.committee_weights.proofs.slices.tolerated_weight.Goals as goal

pub returns-clause-tolerance : goal.returns-clause-tolerance
returns-clause-tolerance c = weight_tolerance c.args.k c.args.total c.requires.resilience c.requires.some
