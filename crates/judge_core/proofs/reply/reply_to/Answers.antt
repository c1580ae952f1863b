use Rattle.std.proofs.Common.{ℕ, List, refl}
use Rattle.judge_core.specs.Answered.{IsTold, answered, unread}
use Rattle.judge_core.specs.Replies.{reply_text, told_of}
use Rattle.judge_questions.specs.Tasks.{IsTask}
use Rattle.judge_verdicts.proofs.Results.{if_ok_so}
use Rattle.judge_core.proofs.reply.reply_to.Goals as goal

pub returns-in-Some-Ok-clause-told : goal.returns-in-Some-Ok-clause-told
returns-in-Some-Ok-clause-told g c =
    let task = rw c.in-Some-Ok.field-0-is at (rw c.in-Some-Ok.is at c.in_ok-task.ensures.read) in
    if_ok_so (λ reply. (line : List ℕ) → IsTask line c.in-Some-Ok.task → IsTold line (told_of reply)) (λ reply. IsTold c.args.line.now (told_of reply)) c.reply_to_task.result (λ reply told. told c.args.line.now task) c.reply_to_task.ensures.told

pub returns-in-Some-Err-clause-told : goal.returns-in-Some-Err-clause-told
unfolding reply_text
returns-in-Some-Err-clause-told g c = unread c.in-Some-Err.what (rw c.in-Some-Err.field-0-is at (rw c.in-Some-Err.is at c.in_ok-task.ensures.read)) refl refl

pub returns-in_ok-answer_to-in-None-clause-told : goal.returns-in_ok-answer_to-in-None-clause-told
unfolding reply_text
returns-in_ok-answer_to-in-None-clause-told g c =
    answered (rw c.in-None.is at c.in_ok-task.ensures.read) c.in_ok-answer_to-in-None.field-0 c.in_ok-answer_to-in-None.ensures.answer refl refl
