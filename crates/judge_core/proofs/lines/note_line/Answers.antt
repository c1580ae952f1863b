use Rattle.std.proofs.Common.{◌≡◌, ◌++◌, subst, sym}
use Rattle.judge_core.specs.Answered.{note_of}
use Rattle.judge_core.specs.Replies.{reply_text, told_of}
use Rattle.judge_core.proofs.lines.note_line.Goals as goal

pub returns-in-Answered-clause-noted : goal.returns-in-Answered-clause-noted
unfolding reply_text
returns-in-Answered-clause-noted g c =
    let (prefix, back, is, appended) = c.note_answer.ensures.noted in
    (prefix, back, subst (λ reply. note_of (c.args.number, told_of {A = g.row.A.Denot} reply) ≡ prefix ++ back) (sym c.in-Answered.is) is, appended)
