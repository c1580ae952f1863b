-- Those that are accused are the signers of both certificates, as they were written.
use Rattle.std.proofs.Common.{◌≡◌, ℕ, List, rules, take}
use Rattle.commonware_c.specs.Certificates.{Accuse}
use Rattle.commonware_c.proofs.ReadBack.{of_two}
use Rattle.commonware_c.proofs.round_trips.accused.accused_of_two.Goals as goal

pub returns-then-view-eq-OK : goal.returns-then-view-eq-OK
returns-then-view-eq-OK c =
    let view = c.commonware_conflict-view.result in
    let named = c.commonware_conflict-view.ensures in
    let ok : view.status ≡ 0 = search rules in
    let accused = named.accused ok in
    let one : List ℕ × List ℕ = (c.args.first.now.value.now, c.args.first.now.signers.now) in
    let two : List ℕ × List ℕ = (c.args.second.now.value.now, c.args.second.now.signers.now) in
    let said = of_two c.in-Some.one.now c.in-Some-certificate_in.two.now one two
    (Accuse c.args.members accused.faults (take view.count c.commonware_conflict-view.new.out)) c.in-Some.ensures c.in-Some-certificate_in.ensures accused.both in
    (named.fits ok, said.3)
