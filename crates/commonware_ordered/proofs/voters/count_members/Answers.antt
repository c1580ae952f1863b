-- Those below the length are counted, which are the positions of the subset.
use Rattle.std.proofs.Common.{◌≡◌, ◌∙◌, ap, arith, length, sym}
use Rattle.std.specs.List.{count_by}
use Rattle.std.specs.Prelude.{nat_lt}
use Rattle.std.proofs.lemmas.List.{take_all}
use Rattle.std.proofs.lemmas.List.Sums.{count_by-le-length}
use Rattle.commonware_faults.specs.laws.SubsetSizeLaws.{length-passing, size-le-length}
use Rattle.commonware_ordered.specs.Voters.{is_among, members_among}
use Rattle.commonware_ordered.specs.laws.PositionLaws.{size-members_among, size-members_among-all}
use Rattle.commonware_ordered.proofs.voters.count_members.Goals as goal
use Rattle.commonware_ordered.proofs.voters.count_members.Given.{Over}

-- each voter below the committee's length is counted once
counted : (g : Over) (c : goal.After-loop-voter g)
    → c.loop-voter.count ≡ count_by (λ x. nat_lt x c.args.members) c.args.voters.now
counted g c =
    let items = c.as_slice-voter-items.ensures.items in
    let whole = take_all c.loop-voter.voter-index c.args.voters.now (omega (arith, ap length items)) in
    c.loop-voter.invariant ∙ ap (count_by (λ x. nat_lt x c.args.members)) whole

pub returns-clause-counted : goal.returns-clause-counted
returns-clause-counted g c =
    counted g c ∙ sym (size-members_among c.args.members c.args.voters.now c.as_slice-voter-items.ensures.strict)

pub returns-clause-all : goal.returns-clause-all
returns-clause-all g c = λ members.
    returns-clause-counted g c
    ∙ size-members_among-all c.args.members c.args.voters.now c.as_slice-voter-items.ensures.strict members

pub returns-clause-at_most : goal.returns-clause-at_most
returns-clause-at_most g c =
    let positions = size-le-length (members_among c.args.members c.args.voters.now) in
    let all = length-passing (is_among c.args.voters.now) c.args.members in
    let voters = count_by-le-length (λ x. nat_lt x c.args.members) c.args.voters.now in
    (omega (arith, returns-clause-counted g c, positions, all), omega (arith, counted g c, voters))
