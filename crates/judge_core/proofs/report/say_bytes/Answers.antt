use Rattle.std.proofs.Common.{◌≡◌, [], subst, sym, ◌∙◌}
use Rattle.std.specs.Io.KnownBytes.{Appends}
use Rattle.judge_core.specs.Said.{Says}
use Rattle.judge_core.proofs.Saying.{on_ok, says_past}
use Rattle.judge_core.proofs.report.say_bytes.Goals as goal

pub returns-clause-said : goal.returns-clause-said
returns-clause-said g c =
    let old = g.W.Write.contents c.args.output.now.inner in
    let mid = g.W.Write.contents c.write_whole.new.output.inner in
    let new = g.W.Write.contents c.write_whole-2.new.output.inner in
    let bytes = c.args.bytes.now in
    let room = c.args.room.now in
    let same : c.push.new.self ≡ room = c.push.ensures.full c.if-push.false in
    let empty : c.push-2.new.self ≡ [] = c.push-2.ensures.full c.if-push-2.false ∙ c.clear.ensures in
    let written : Appends old mid room = subst (Appends old mid) (c.as_slice.ensures ∙ same) c.in_ok-write_whole.ensures.bytes in
    on_ok c.write_whole-2.result (Appends mid new bytes) (Says old new room c.push-2.new.self bytes)
    (λ more. subst (λ r. Says old new room r bytes) (sym empty) (says_past old mid new room bytes written more)) c.write_whole-2.ensures.bytes
