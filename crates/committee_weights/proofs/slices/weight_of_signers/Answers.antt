-- What members weigh together fits, since it is no more than all weigh.
use Rattle.committee_weights.proofs.Listed.{weigh_when_members}
use Rattle.committee_weights.proofs.slices.weight_of_signers.Goals as goal

pub returns : goal.returns
returns c = λ indices found.
    weigh_when_members c.args.weights.now indices c.sum_of.result found.strict c.requires.fits (c.sum_of.ensures indices found)
