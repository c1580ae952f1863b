-- The lemmas of all weights.
use Rattle.committee_weights.proofs.Safety.{overlap-ones, safe_below, weight_tolerance, GreatestSafe-by_fit, GreatestSafe-counts}
use Rattle.committee_weights.proofs.Safety.{GreatestSafe-fit}
use Rattle.committee_weights.proofs.Meeting.{GreatestMeeting-is}
use Rattle.committee_weights.proofs.Sharing.{meets-by_thirds, meets_where_none_cover, quorums_share, rest_weighs}
use Rattle.committee_weights.proofs.laws.weight_law.Goals as goal

pub returns-clause-tolerance : goal.returns-clause-tolerance
returns-clause-tolerance c = weight_tolerance

pub returns-clause-fit : goal.returns-clause-fit
returns-clause-fit c = λ k total f two. (GreatestSafe-fit k total f two, GreatestSafe-by_fit k total f two)

pub returns-clause-counting : goal.returns-clause-counting
returns-clause-counting c = GreatestSafe-counts

pub returns-clause-ones : goal.returns-clause-ones
returns-clause-ones c = overlap-ones

pub returns-clause-shares : goal.returns-clause-shares
returns-clause-shares c = quorums_share

pub returns-clause-meets : goal.returns-clause-meets
returns-clause-meets c = meets-by_thirds

pub returns-clause-below : goal.returns-clause-below
returns-clause-below c = safe_below

pub returns-clause-covers : goal.returns-clause-covers
returns-clause-covers c = meets_where_none_cover

pub returns-clause-rest : goal.returns-clause-rest
returns-clause-rest c = rest_weighs

pub returns-clause-meeting : goal.returns-clause-meeting
returns-clause-meeting c = GreatestMeeting-is
