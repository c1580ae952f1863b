use Rattle.std.proofs.Common.{◌≡◌, take}
use Rattle.std.specs.Prelude.{nat_lt}
use Rattle.std.specs.List.{count_by}
use Rattle.commonware_ordered.proofs.voters.count_members.Given as goal

abbrev pub invariant-loop-voter : goal.invariant-loop-voter
invariant-loop-voter g l = l.count ≡ count_by (λ x. nat_lt x l.fn.members) (take l.voter-index l.fn.voters)
