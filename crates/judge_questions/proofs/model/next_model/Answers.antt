use Rattle.std.proofs.Common.{◌≡◌, ℕ, List, ◌∷◌, None, Option, Some, subst}
use Rattle.std.specs.Prelude.{MatchOption}
use Rattle.judge_questions.specs.Tasks.{IsModel, LackModel}
use Rattle.judge_questions.proofs.model.next_model.Goals as goal

-- the model of the first word is that of the words
first_model : (words new : List (List ℕ)) (word : List ℕ) → words ≡ word ∷ new → (k : Option ℕ) → MatchOption k ((n : ℕ) → ¬ IsModel word n) (IsModel word) → MatchOption k (LackModel words) (λ n. (x : List ℕ) × (words ≡ x ∷ new) × IsModel x n)
first_model words new word step None none = λ other more n e is.
    let same : other ≡ word = cc in
    none n (subst (λ w. IsModel w n) same is)
first_model words new word step (Some n) is = (word, step, is)

pub returns : goal.returns
returns c = first_model c.args.words.now c.next.new.self c.in_ok-next.field-0.now c.in_ok-next.ensures c.read_model.result c.read_model.ensures
