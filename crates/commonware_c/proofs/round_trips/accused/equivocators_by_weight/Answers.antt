-- Those that equivocated are the signers of both certificates, as they were written.
use Rattle.std.proofs.Common.{◌≡◌, ℕ, List, rules, take}
use Rattle.commonware_c.specs.Equivocations.{HaveEquivocated}
use Rattle.commonware_c.specs.WeightedConflicts.{AccuseByWeight}
use Rattle.commonware_c.proofs.ReadBack.{of_two}
use Rattle.commonware_c.proofs.round_trips.accused.equivocators_by_weight.Goals as goal

pub returns-then-view-eq-OK : goal.returns-then-view-eq-OK
returns-then-view-eq-OK c =
    let view = c.commonware_weighted_equivocation-view.result in
    let named = c.commonware_weighted_equivocation-view.ensures in
    let ok : view.status ≡ 0 = search rules in
    let both = named.named ok in
    let out = take view.count c.commonware_weighted_equivocation-view.new.out in
    let one : List ℕ × List ℕ = (c.args.first.now.value.now, c.args.first.now.signers.now) in
    let two : List ℕ × List ℕ = (c.args.second.now.value.now, c.args.second.now.signers.now) in
    let accuse = of_two c.in-Some.one.now c.in-Some-certificate_in.two.now one two
    (AccuseByWeight c.args.k c.args.weights.now out) c.in-Some.ensures c.in-Some-certificate_in.ensures both.accused.both in
    let guilty = of_two c.in-Some.one.now c.in-Some-certificate_in.two.now one two
    (HaveEquivocated out) c.in-Some.ensures c.in-Some-certificate_in.ensures both.guilty in
    (named.fits ok, named.weigh ok, accuse.3, guilty.1)
