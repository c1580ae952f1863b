use Rattle.std.proofs.Common.{◌≡◌, ℕ, ◌<◌, ◌+◌, List, [], ◌∷◌, ◌++◌, length, length-append, refl, subst, sym, ◌∙◌}
use Rattle.judge_core.specs.Lines.{IsComment}
use Rattle.judge_core.proofs.Saying.{if_err_so}
use Rattle.judge_core.proofs.lines.extend_line.Goals as goal

-- what goes on as no comment, and doesn't begin one
no_comment : (pending bytes : List ℕ) → ¬ IsComment pending → ¬ ((pending ≡ []) × IsComment bytes) → ¬ IsComment (pending ++ bytes)
no_comment [] bytes none begins comment = begins (refl, comment)
no_comment (x ∷ pending) bytes none begins (rest, is) = none (pending, cc)

pub returns-clause-memory : goal.returns-clause-memory
returns-clause-memory g c =
    let pending = c.args.pending.now in
    let bytes = c.args.bytes.now in
    let none : ¬ IsComment pending = λ comment. cc (c.if-is_comment.ensures.1 (subst IsComment (sym c.as_slice.ensures) comment)) in
    let begins : ¬ ((pending ≡ []) × IsComment bytes) = λ both. cc (c.if-begins_comment.ensures.1 (c.as_slice-2.ensures ∙ both.0, both.1)) in
    if_err_so (λ _. 4096 < length pending + length bytes) (λ _. (4096 < length (pending ++ bytes)) × ¬ IsComment (pending ++ bytes)) c.extend-2.result
    (λ e long. (subst (λ n. 4096 < n) (sym (length-append pending bytes)) long, no_comment pending bytes none begins)) c.extend-2.ensures.memory
