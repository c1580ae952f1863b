use Rattle.std.proofs.Common.{arith}
use Rattle.commonware_sequence.proofs.BigEndian.{fewer_same}
use Rattle.commonware_sequence.proofs.order.order_past_a_word.Goals as goal

pub order_by_word-requires-2-clause-same : goal.order_by_word-requires-2-clause-same
order_by_word-requires-2-clause-same c =
    fewer_same c.min-third.result 16 c.args.mine.now c.args.others.now (omega (arith, c.min-third.ensures)) c.in_default.ensures.none
