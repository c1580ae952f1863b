use Rattle.std.proofs.Common.{ap}
use Rattle.committee_weights.specs.Members.{faulty_weight, quorum_weight}
use Rattle.committee_weights.proofs.OneEach.{quorum_of_ones, sum_of_ones, weight_of_ones}
use Rattle.committee_weights.proofs.ones.ones_law.Goals as goal

pub returns-clause-total : goal.returns-clause-total
returns-clause-total c = sum_of_ones

pub returns-clause-weighs : goal.returns-clause-weighs
returns-clause-weighs c = weight_of_ones

pub returns-clause-faulty : goal.returns-clause-faulty
returns-clause-faulty c weights k h = ap (faulty_weight k) (sum_of_ones weights h)

pub returns-clause-quorum : goal.returns-clause-quorum
returns-clause-quorum c weights k h = ap (quorum_weight k) (sum_of_ones weights h)

pub returns-clause-heads : goal.returns-clause-heads
returns-clause-heads c = quorum_of_ones

pub returns-clause-thirds : goal.returns-clause-thirds
returns-clause-thirds c weights signers = quorum_of_ones weights signers 3

pub returns-clause-fifths : goal.returns-clause-fifths
returns-clause-fifths c weights signers = quorum_of_ones weights signers 5
