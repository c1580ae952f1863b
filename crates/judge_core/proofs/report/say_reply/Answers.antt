use Rattle.std.proofs.Common.{[], ◌∷◌, take, subst, sym, ◌∙◌}
use Rattle.judge_core.specs.Replies.{reply_text}
use Rattle.judge_core.specs.Said.{Says, parts_text}
use Rattle.judge_core.proofs.Saying.{line_split, on_ok, says_on}
use Rattle.judge_core.proofs.report.say_reply.Goals as goal

pub returns-clause-said : goal.returns-clause-said
returns-clause-said g c =
    let old = g.W.Write.contents c.args.output.now.inner in
    let mid = g.W.Write.contents c.say_parts.new.output.inner in
    let new = g.W.Write.contents c.say_bytes.new.output.inner in
    let room = c.args.room.now in
    let text = reply_text {A = g.row.A.Denot} c.args.reply.now in
    on_ok c.say_bytes.result (Says mid new c.say_parts.new.room c.say_bytes.new.room (10 ∷ [])) (Says old new room c.say_bytes.new.room text)
    (λ more.
    subst (Says old new room c.say_bytes.new.room) (sym (line_split (take c.line.inside.count c.line.inside.parts)) ∙ c.line.view_is ∙ c.reply_line-line.ensures)
    (says_on old mid new room c.say_parts.new.room c.say_bytes.new.room (parts_text (take c.line.inside.count c.line.inside.parts)) (10 ∷ []) c.in_ok-say_parts.ensures.said more))
    c.say_bytes.ensures.said
