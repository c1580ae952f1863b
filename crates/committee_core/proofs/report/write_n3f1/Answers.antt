use Rattle.std.proofs.Common.{◌≡◌, ◌-◌, ◌++◌, OnOk, string_bytes, subst, arith}
use Rattle.std.proofs.Math.Path.{ap₂}
use Rattle.commonware_faults.specs.Counts.{n3f1_faults}
use Rattle.committee_core.specs.Report.{n3f1_line}
use Rattle.committee_core.proofs.report.write_n3f1.Goals as goal

pub returns : goal.returns
unfolding n3f1_line
returns g c =
    let f = n3f1_faults c.args.n in
    let quorum : c.quorum-quorum.result ≡ c.args.n - f = omega (arith, c.quorum-quorum.ensures.value) in
    subst (λ line. OnOk c.writeln.result (string_bytes c.writeln.new.self ≡ string_bytes c.args.text.now ++ line))
    (ap₂ n3f1_line c.max_faults-faults.ensures.faults quorum) c.writeln.ensures.bytes
