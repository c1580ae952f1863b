use Rattle.std.proofs.Common.{arith}
use Rattle.judge_questions.proofs.RangesRead.{fails_first, fails_second, fails_third, reads_nothing, reads_three}
use Rattle.judge_questions.proofs.question.three_ranges.Goals as goal

pub returns-in_err-first : goal.returns-in_err-first
returns-in_err-first c = reads_nothing 3 c.args.words.now c.next_limit.new.words c.from_residual.result c.from_residual.ensures (fails_first 3 c.args.words.now (omega arith) c.in_err-first.ensures.given)

pub returns-in_err-second : goal.returns-in_err-second
returns-in_err-second c =
    let (word, step, is) = c.in_ok-first.ensures.read in
    reads_nothing 3 c.args.words.now c.next_limit-2.new.words c.from_residual-in_err-second.result c.from_residual-in_err-second.ensures (fails_second 3 c.args.words.now c.next_limit.new.words word (omega arith) step c.in_err-second.ensures.given)

pub returns-in_err-third : goal.returns-in_err-third
returns-in_err-third c =
    let (word, step, is) = c.in_ok-first.ensures.read in
    let (next, step', is') = c.in_ok-second.ensures.read in
    reads_nothing 3 c.args.words.now c.next_limit-3.new.words c.from_residual-in_err-third.result c.from_residual-in_err-third.ensures
    (fails_third 3 c.args.words.now c.next_limit.new.words c.next_limit-2.new.words word next (omega arith) step step' c.in_err-third.ensures.given)

pub returns : goal.returns
returns c =
    let (word, step, is) = c.in_ok-first.ensures.read in
    let (next, step', is') = c.in_ok-second.ensures.read in
    let (end, step'', is'') = c.in_ok-third.ensures.read in
    let m = c.limits_of.ensures in
    reads_three c.args.words.now c.next_limit.new.words c.next_limit-2.new.words c.next_limit-3.new.words word next end c.in_ok-first.first c.in_ok-second.second c.in_ok-third.third c.limits_of.result m.first m.second m.third
    step is c.in_ok-first.ensures.given step' is' c.in_ok-second.ensures.given step'' is'' c.in_ok-third.ensures.given
