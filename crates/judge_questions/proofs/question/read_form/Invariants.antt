use Rattle.std.proofs.Common.{◌≢◌, ℕ, ◌<◌, get_or}
use Rattle.judge_questions.specs.Forms.{name_of}
use Rattle.judge_questions.specs.declared.form.Form.TheVariants.{U8}
use Rattle.judge_questions.proofs.question.read_form.Given as goal

-- none of the types so far has the name
abbrev pub invariant-loop-form : goal.invariant-loop-form
invariant-loop-form l = (k : ℕ) → k < l.form-index → l.name ≢ name_of (get_or l.form-items k U8)
