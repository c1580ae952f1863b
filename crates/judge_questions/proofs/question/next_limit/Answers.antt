use Rattle.std.proofs.Common.{◌≡◌, subst}
use Rattle.judge_questions.specs.Ranges.{IsRange}
use Rattle.judge_questions.proofs.question.next_limit.Goals as goal

pub returns-clause-given : goal.returns-clause-given
returns-clause-given c = λ word rest range e is.
    let step = c.in_ok-next.ensures in
    let same : word ≡ c.in_ok-next.field-0.now = cc in
    c.read_limit.ensures.given range (subst (λ w. IsRange w range) same is)
