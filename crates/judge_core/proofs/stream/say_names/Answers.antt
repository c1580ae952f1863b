use Rattle.std.proofs.Common.{[], ◌∷◌, ◌++◌, get_or, ap, ◌∙◌}
use Rattle.judge_questions.specs.Forms.{all_forms, name_of, ranges_of}
use Rattle.judge_questions.specs.declared.form.Form.{Form}
use Rattle.judge_questions.specs.declared.form.Form.TheVariants.{U8}
use Rattle.judge_core.proofs.Saying.{says_more}
use Rattle.judge_core.proofs.stream.say_names.Goals as goal

pub loop-form-preserved : goal.loop-form-preserved
loop-form-preserved g c =
    let form = get_or all_forms c.loop-form.form-index U8 in
    let is = ap (λ name. name ++ (c.ranges-in-loop-form.result.now ++ (10 ∷ []))) c.name.ensures ∙ ap (λ ranges. name_of form ++ (ranges ++ (10 ∷ []))) c.ranges-in-loop-form.ensures in (
      c.in_ok-say_parts.ensures.sound ∙ c.loop-form.invariant.0,
      says_more (λ (f : Form). name_of f ++ (ranges_of f ++ (10 ∷ []))) all_forms c.loop-form.form-index U8 _ _ _ c.args.room.now c.loop-form.room c.say_parts.new.room _ c.loop-form-test.true is c.loop-form.invariant.1 c.in_ok-say_parts.ensures.said,
    )
