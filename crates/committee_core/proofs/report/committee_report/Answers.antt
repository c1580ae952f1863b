use Rattle.std.proofs.Common.{◌+◌, ◌*◌, length, arith}
use Rattle.std.proofs.lemmas.Grind.{common_steps}
use Rattle.commonware_faults.specs.Counts.{n3f1_faults, n5f1_faults}
use Rattle.committee_core.proofs.Numbers.{are_numbers}
use Rattle.committee_core.proofs.report.committee_report.Goals as goal

pub returns : goal.returns
returns g c =
    let n = length c.args.members.now in
    (n3f1_faults n, n5f1_faults n, 2 * n5f1_faults n + 1, are_numbers n c.requires.some, grind (arith, common_steps))

pub loop-position-preserved : goal.loop-position-preserved
loop-position-preserved g c = grind (arith, common_steps)
