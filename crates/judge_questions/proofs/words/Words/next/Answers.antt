use Rattle.std.proofs.Common.{◌==◌, ap, sym, ◌∙◌}
use Rattle.std.specs.Option.{option_copied}
use Rattle.judge_questions.specs.Words.{words_left}
use Rattle.judge_questions.proofs.Splits.{cut_at_place_rest, cut_nowhere}
use Rattle.judge_questions.proofs.words.Words.next.Goals as goal

pub returns-in-Some : goal.returns-in-Some
returns-in-Some c =
    sym c.self.view_is ∙ ap (λ r. words_left (option_copied r)) c.in_ok-rest.was ∙ cut_at_place_rest (λ b. b == 32) c.in_ok-rest.rest.now c.in-Some.at (sym c.place_of.ensures ∙ c.in-Some.is)

pub returns-in-None : goal.returns-in-None
returns-in-None c =
    sym c.self.view_is ∙ ap (λ r. words_left (option_copied r)) c.in_ok-rest.was ∙ cut_nowhere (λ b. b == 32) c.in_ok-rest.rest.now (sym c.place_of.ensures ∙ c.in-None.is)
