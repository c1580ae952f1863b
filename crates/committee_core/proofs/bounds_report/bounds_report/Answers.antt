use Rattle.std.proofs.Common.{◌+◌, ◌*◌, arith}
use Rattle.std.proofs.lemmas.Grind.{common_steps}
use Rattle.commonware_faults.specs.Counts.{n3f1_faults, n5f1_faults}
use Rattle.committee_core.proofs.Numbers.{are_numbers}
use Rattle.committee_core.proofs.bounds_report.bounds_report.Goals as goal

pub returns : goal.returns
returns g c =
    let n = c.args.n.value in
    (n3f1_faults n, n5f1_faults n, 2 * n5f1_faults n + 1, are_numbers n c.args.n.ok, grind (arith, common_steps))
