use Rattle.std.proofs.Common.{◌≡◌, ◌-◌, ◌++◌, OnOk, string_bytes, subst, arith}
use Rattle.commonware_faults.specs.Counts.{n5f1_faults}
use Rattle.committee_core.specs.Report.{n5f1_line}
use Rattle.committee_core.proofs.report.write_n5f1.Goals as goal

pub returns : goal.returns
unfolding n5f1_line
returns g c =
    let f = n5f1_faults c.args.n in
    let quorum : c.quorum-quorum.result ≡ c.args.n - f = omega (arith, c.quorum-quorum.ensures.value) in
    subst (λ line. OnOk c.writeln.result (string_bytes c.writeln.new.self ≡ string_bytes c.args.text.now ++ line))
    (λ j. n5f1_line (c.max_faults-faults.ensures.faults j) (quorum j) (c.m_quorum-m.ensures.value j)) c.writeln.ensures.bytes
