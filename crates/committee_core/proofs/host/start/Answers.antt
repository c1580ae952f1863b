-- Each clause on the words is that of the session of what follows the first argument.
use Rattle.std.proofs.Common.{ap, arith, drop, inr, ◌∙◌, ◌≡◌}
use Rattle.program_io.proofs.ArgumentLemmas.{has_words}
use Rattle.committee_core.proofs.host.start.Goals as goal

pub returns-in-Ok-clause-done : goal.returns-in-Ok-clause-done
returns-in-Ok-clause-done g c = λ status.
    has_words c.args.arguments _ _ _ c.in-Ok.ensures.taken (c.after_first.ensures ∙ ap (drop 1) c.deref.ensures.value) (c.session.ensures.done status)

pub returns-in-Ok-clause-asked : goal.returns-in-Ok-clause-asked
returns-in-Ok-clause-asked g c = λ status.
    has_words c.args.arguments _ _ _ c.in-Ok.ensures.taken (c.after_first.ensures ∙ ap (drop 1) c.deref.ensures.value) (λ none. let two : c.session.result ≡ 2 = c.session.ensures.usage.1 none in omega (arith, status, two))

pub returns-in-Ok-clause-usage : goal.returns-in-Ok-clause-usage
returns-in-Ok-clause-usage g c = λ status.
    inr (has_words c.args.arguments _ _ _ c.in-Ok.ensures.taken (c.after_first.ensures ∙ ap (drop 1) c.deref.ensures.value) (c.session.ensures.usage.0 status))

pub returns-in-Ok-clause-ended : goal.returns-in-Ok-clause-ended
returns-in-Ok-clause-ended g c = λ status.
    has_words c.args.arguments _ _ _ c.in-Ok.ensures.taken (c.after_first.ensures ∙ ap (drop 1) c.deref.ensures.value) (λ read. c.session.ensures.ended read status)
