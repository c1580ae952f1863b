use Rattle.std.proofs.Common.{◌≢◌, ℕ, ◌<◌, get_or}
use Rattle.judge_questions.specs.Tasks.{verb_name}
use Rattle.judge_questions.specs.declared.verb.Verb.TheVariants.{Build}
use Rattle.judge_questions.proofs.verb.read_verb.Given as goal

-- none of the verbs so far is the word
abbrev pub invariant-loop-verb : goal.invariant-loop-verb
invariant-loop-verb l = (k : ℕ) → k < l.verb-index → l.word ≢ verb_name (get_or l.verb-items k Build)
