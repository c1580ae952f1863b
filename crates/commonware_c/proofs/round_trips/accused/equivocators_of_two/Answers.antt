-- Those that equivocated signed both values, as they were written.
use Rattle.std.proofs.Common.{◌≡◌, ℕ, List, rules, take}
use Rattle.commonware_c.specs.Equivocations.{HaveEquivocated}
use Rattle.commonware_c.proofs.ReadBack.{of_two}
use Rattle.commonware_c.proofs.round_trips.accused.equivocators_of_two.Goals as goal

pub returns-then-view-eq-OK : goal.returns-then-view-eq-OK
returns-then-view-eq-OK c =
    let view = c.commonware_equivocation-view.result in
    let named = c.commonware_equivocation-view.ensures in
    let ok : view.status ≡ 0 = search rules in
    let one : List ℕ × List ℕ = (c.args.first.now.value.now, c.args.first.now.signers.now) in
    let two : List ℕ × List ℕ = (c.args.second.now.value.now, c.args.second.now.signers.now) in
    let said = of_two c.in-Some.one.now c.in-Some-certificate_in.two.now one two
    (HaveEquivocated (take view.count c.commonware_equivocation-view.new.out)) c.in-Some.ensures c.in-Some-certificate_in.ensures (named.named ok).guilty in
    (named.fits ok, said.1)
