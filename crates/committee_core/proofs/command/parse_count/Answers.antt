use Rattle.std.proofs.Common.{sym}
use Rattle.committee_core.proofs.Counts.{no_count}
use Rattle.committee_core.proofs.command.parse_count.Goals as goal

pub returns-in_err-ok-clause-other : goal.returns-in_err-ok-clause-other
returns-in_err-ok-clause-other c =
    let none = no_count c.args.word.now c.parse.result c.parse.ensures.value.0 (sym c.in_err-ok.ensures.value) in
    rw c.from_residual.ensures none
