use Rattle.std.specs.Prelude.{nat_eq}
use Rattle.std.proofs.lemmas.Cmp.{nat_cmp_total}
use Rattle.commonware_utils.specs.Codec.{IsWord}
use Rattle.judge_verdicts.proofs.Writable.{among_writable}
use Rattle.judge_verdicts.proofs.weighted_equivocation.by_slot.Goals as goal

pub weighed-requires-clause-writable : goal.weighed-requires-clause-writable
weighed-requires-clause-writable g c =
    let both = c.in-Ok.ensures.both in
    among_writable nat_cmp_total IsWord nat_eq c.args.first.now.signers c.in-Ok.both c.requires.writable.list both.strict (λ x h. ((both.exactly x).0 h).0)
