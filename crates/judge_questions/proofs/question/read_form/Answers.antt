use Rattle.std.proofs.Common.{ap, sym, arith, ◌∙◌}
use Rattle.judge_questions.specs.Forms.{name_of}
use Rattle.judge_questions.proofs.FormLemmas.{listed, place_in_forms, place_inside}
use Rattle.judge_questions.proofs.question.read_form.Goals as goal

pub returns : goal.returns
returns c = λ form is. c.loop-form.invariant (place_in_forms form) (omega (arith, place_inside form, c.loop-form-test.false)) (is ∙ ap name_of (sym (listed form)))
