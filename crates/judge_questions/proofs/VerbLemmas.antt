-- Each verb is in the list of the verbs.
use Rattle.std.proofs.Common.{◌≡◌, ℕ, ◌<◌, List, [], ◌∷◌, get_or, refl, arith}
use Rattle.judge_questions.specs.declared.verb.Verb.{Verb}
use Rattle.judge_questions.specs.declared.verb.Verb.TheVariants.{Build, BuildUnique, Position, Faults, Refute}
use Rattle.judge_questions.specs.declared.verb.Verb.TheVariants.{Quorum, Conflict, Equivocation}
use Rattle.judge_questions.specs.declared.verb.Verb.TheVariants.{Weights, WeightedQuorum, WeightedConflict, WeightedEquivocation}

-- the verbs
abbrev pub all_verbs : List Verb
all_verbs =
    Build ∷ BuildUnique ∷ Position ∷ Faults ∷ Refute ∷ Quorum ∷ Conflict ∷ Equivocation ∷ Weights ∷ WeightedQuorum ∷ WeightedConflict ∷ WeightedEquivocation ∷ []

-- its place in the list
abbrev pub place_in_verbs : Verb → ℕ
place_in_verbs Build = 0
place_in_verbs BuildUnique = 1
place_in_verbs Position = 2
place_in_verbs Faults = 3
place_in_verbs Refute = 4
place_in_verbs Quorum = 5
place_in_verbs Conflict = 6
place_in_verbs Equivocation = 7
place_in_verbs Weights = 8
place_in_verbs WeightedQuorum = 9
place_in_verbs WeightedConflict = 10
place_in_verbs WeightedEquivocation = 11

-- it is at its place
pub listed_verb : (verb : Verb) → get_or all_verbs (place_in_verbs verb) Build ≡ verb
listed_verb Build = refl
listed_verb BuildUnique = refl
listed_verb Position = refl
listed_verb Faults = refl
listed_verb Refute = refl
listed_verb Quorum = refl
listed_verb Conflict = refl
listed_verb Equivocation = refl
listed_verb Weights = refl
listed_verb WeightedQuorum = refl
listed_verb WeightedConflict = refl
listed_verb WeightedEquivocation = refl

-- which is inside
pub verb_inside : (verb : Verb) → place_in_verbs verb < 12
verb_inside Build = omega arith
verb_inside BuildUnique = omega arith
verb_inside Position = omega arith
verb_inside Faults = omega arith
verb_inside Refute = omega arith
verb_inside Quorum = omega arith
verb_inside Conflict = omega arith
verb_inside Equivocation = omega arith
verb_inside Weights = omega arith
verb_inside WeightedQuorum = omega arith
verb_inside WeightedConflict = omega arith
verb_inside WeightedEquivocation = omega arith
