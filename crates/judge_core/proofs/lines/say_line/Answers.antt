use Rattle.std.proofs.Common.{◌++◌, append_assoc, subst, sym}
use Rattle.std.specs.Fmt.{decimal}
use Rattle.std.specs.Prelude.{codes}
use Rattle.judge_core.specs.Answered.{said_of}
use Rattle.judge_core.specs.Replies.{reply_text, told_of}
use Rattle.judge_core.specs.Said.{Says}
use Rattle.judge_core.proofs.Saying.{on_ok, says_on}
use Rattle.judge_core.proofs.lines.say_line.Goals as goal

pub returns-then-numbered-clause-said : goal.returns-then-numbered-clause-said
returns-then-numbered-clause-said g c =
    let old = g.W.Write.contents c.args.output.now.inner in
    let mid = g.W.Write.contents c.say_parts.new.output.inner in
    let new = g.W.Write.contents c.say_reply.new.output.inner in
    let n = c.args.number in
    let text = reply_text {A = g.row.A.Denot} c.args.reply.now in
    on_ok c.say_reply.result (Says mid new c.say_parts.new.room c.say_reply.new.room text) (Says old new c.args.room.now c.say_reply.new.room (said_of c.args.numbered (n, told_of {A = g.row.A.Denot} c.args.reply.now)))
    (λ more.
    subst (λ b. Says old new c.args.room.now c.say_reply.new.room (said_of b (n, told_of {A = g.row.A.Denot} c.args.reply.now))) (sym c.if-numbered.true)
    (subst (Says old new c.args.room.now c.say_reply.new.room) (append_assoc (decimal n) (codes ": ") text)
    (says_on old mid new c.args.room.now c.say_parts.new.room c.say_reply.new.room (decimal n ++ codes ": ") text c.in_ok-say_parts.ensures.said more)))
    c.say_reply.ensures.said
