use Rattle.std.proofs.Common.{◌≡◌, [], ◌∷◌, ◌++◌, take}
use Rattle.std.specs.List.{flat_map}
use Rattle.judge_questions.specs.Forms.{name_of, ranges_of}
use Rattle.judge_core.specs.Said.{Says}
use Rattle.judge_core.proofs.stream.say_names.Given as goal

-- the names so far were said
abbrev pub invariant-loop-form : goal.invariant-loop-form
invariant-loop-form g l =
    (l.output.failed ≡ l.initial.output.failed)
    × Says (g.W.Write.contents l.initial.output.inner) (g.W.Write.contents l.output.inner) l.initial.room l.room
    (flat_map (λ form. name_of form ++ (ranges_of form ++ (10 ∷ []))) (take l.form-index l.form-items))
