use Rattle.std.proofs.Common.{◌∙◌, arith, subst}
use Rattle.commonware_sequence.specs.BigEndian.{HaveSamePrefix}
use Rattle.commonware_sequence.proofs.BigEndian.{lengths_decide}
use Rattle.commonware_sequence.proofs.order.order_past.Goals as goal

pub returns : goal.returns
returns c =
    let xs = c.args.mine.now in
    let ys = c.args.others.now in
    let n = c.min-shorter.result in
    let same : HaveSamePrefix n xs ys = subst (λ m. HaveSamePrefix m xs ys) (omega (arith, c.min-shorter.ensures, c.requires.mine, c.requires.others)) c.in_default-order_by_word.ensures.none in
    c.cmp.ensures ∙ lengths_decide n xs ys c.min-shorter.ensures same
