use Rattle.std.proofs.Common.{ap, sym, arith, ◌∙◌}
use Rattle.judge_questions.specs.Tasks.{verb_name}
use Rattle.judge_questions.proofs.VerbLemmas.{listed_verb, place_in_verbs, verb_inside}
use Rattle.judge_questions.proofs.verb.read_verb.Goals as goal

pub returns : goal.returns
returns c = λ verb is. c.loop-verb.invariant (place_in_verbs verb) (omega (arith, verb_inside verb, c.loop-verb-test.false)) (is ∙ ap verb_name (sym (listed_verb verb)))
