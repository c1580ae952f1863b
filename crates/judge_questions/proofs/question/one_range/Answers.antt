use Rattle.std.proofs.Common.{arith, ◌∙◌}
use Rattle.judge_questions.proofs.RangesRead.{fails_first, reads_nothing, reads_one}
use Rattle.judge_questions.proofs.question.one_range.Goals as goal

pub returns-in_err-first : goal.returns-in_err-first
returns-in_err-first c = reads_nothing 1 c.args.words.now c.next_limit.new.words c.from_residual.result c.from_residual.ensures (fails_first 1 c.args.words.now (omega arith) c.in_err-first.ensures.given)

pub returns : goal.returns
returns c =
    let (word, step, is) = c.in_ok-first.ensures.read in
    reads_one c.args.words.now c.next_limit.new.words word c.in_ok-first.first c.limits_of.result c.limits_of.ensures.first step is c.in_ok-first.ensures.given (c.limits_of.ensures.second ∙ c.full.ensures) (c.limits_of.ensures.third ∙ c.full-2.ensures)
