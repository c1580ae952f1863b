use Rattle.std.proofs.Common.{◌≡◌, [], ◌∷◌, true, false, subst, sym, ◌∙◌}
use Rattle.std.proofs.KnownBytes.{Appends-nil}
use Rattle.judge_core.specs.Answered.{AreAnswered, asked_from, is_asked, said_of}
use Rattle.judge_core.specs.Replies.{told_of}
use Rattle.judge_core.proofs.Answering.{one_answered, silent_answered}
use Rattle.judge_core.proofs.Saying.{says_nothing}
use Rattle.judge_core.proofs.lines.answer_line.Goals as goal

pub returns-clause-answered : goal.returns-clause-answered
returns-clause-answered g c =
    let silent : is_asked c.args.line.now ≡ false = sym c.asks.ensures ∙ c.if-asks.false in
    ([], [], says_nothing _ _, Appends-nil _, silent_answered c.args.numbered c.args.number c.args.line.now silent)

pub returns-then-asks-clause-answered : goal.returns-then-asks-clause-answered
returns-then-asks-clause-answered g c =
    let (noted, back, note, appended) = c.note_line.ensures.noted in
    let n = c.args.number in
    let line = c.args.line.now in
    let told = told_of {A = g.row.A.Denot} c.in_ok-reply.reply in
    let asked : is_asked line ≡ true = sym c.asks.ensures ∙ c.if-asks.true in (
      said_of c.args.numbered (n, told),
      noted,
      c.in_ok-say_line.ensures.said,
      appended,
      subst (AreAnswered c.args.numbered (asked_from n (line ∷ [])) (said_of c.args.numbered (n, told)) noted) (sym c.is_verdict.ensures) (one_answered c.args.numbered n line told noted back asked c.in_ok-reply.ensures.told note),
    )
