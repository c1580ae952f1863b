use Rattle.std.proofs.Common.{rules}
use Rattle.std.specs.Prelude.{nat_eq}
use Rattle.std.proofs.lemmas.Cmp.{nat_cmp_total}
use Rattle.commonware_utils.specs.Codec.{IsWord}
use Rattle.judge_verdicts.proofs.Writable.{among_writable}
use Rattle.judge_verdicts.proofs.Results.{on_error}
use Rattle.judge_verdicts.proofs.conflict.among.Goals as goal

pub bytes_of-requires : goal.bytes_of-requires
bytes_of-requires g c =
    let both = c.in-Ok.ensures.both in
    among_writable nat_cmp_total IsWord nat_eq c.args.first.now.signers c.in-Ok.both c.requires.writable.list both.strict (λ x h. ((both.exactly x).0 h).0)

pub returns-in_err-bytes_of-in-Ok-clause-memory : goal.returns-in_err-bytes_of-in-Ok-clause-memory
returns-in_err-bytes_of-in-Ok-clause-memory g c =
    on_error _ c.from_residual.result (search rules, (c.tolerated_faults.result, c.tolerated_faults.ensures, c.in-Ok.ensures.quorums.0, c.in-Ok.ensures.quorums.1))
