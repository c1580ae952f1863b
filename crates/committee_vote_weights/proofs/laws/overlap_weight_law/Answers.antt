use Rattle.committee_vote_weights.proofs.Weighing.{shared_by_weight}
use Rattle.committee_vote_weights.proofs.laws.overlap_weight_law.Goals as goal

pub returns : goal.returns
returns c = shared_by_weight
