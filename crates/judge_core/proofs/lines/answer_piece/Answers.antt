use Rattle.std.proofs.Common.{subst, ◌∙◌}
use Rattle.std.specs.Io.KnownBytes.{Appends}
use Rattle.judge_core.specs.Said.{Says}
use Rattle.judge_core.proofs.Saying.{says_all}
use Rattle.judge_core.proofs.lines.answer_piece.Goals as goal

pub returns-clause-memory : goal.returns-clause-memory
returns-clause-memory g c = λ is.
    let (sound, stopped, unfree) = c.answer_lines-judged.ensures.memory is in
    let old = g.W.Write.contents c.args.output.now.inner in
    let mid = g.W.Write.contents c.answer_lines-judged.new.output.inner in
    let new = g.W.Write.contents c.write_whole.new.output.inner in
    let room = c.answer_lines-judged.new.room in
    let told = subst (λ r. Says old mid r room stopped.said) c.new-room.ensures stopped.told in
    let written = subst (Appends mid new) c.as_slice.ensures c.in_ok-write_whole.ensures.bytes in (
      c.in_ok-write_whole.ensures.sound ∙ sound,
      record {
        gone = stopped.gone;
        after = stopped.after;
        m = stopped.m;
        back = stopped.back;
        said = stopped.said;
        noted = stopped.noted;
        judged = stopped.judged;
        split = stopped.split;
        told = says_all old mid new room stopped.said told written;
        answered = stopped.answered;
      },
      unfree,
    )
