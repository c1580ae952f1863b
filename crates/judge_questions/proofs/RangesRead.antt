-- Ranges that are read one after another.
use Rattle.std.proofs.Common.{◌≡◌, ℕ, ◌≤◌, List, [], ◌∷◌, ◌++◌, length, Option, Some, None, refl, sym, ap, subst, arith, ◌∙◌}
use Rattle.commonware_base.specs.Range.{Bounds}
use Rattle.judge_questions.specs.Limits.{full}
use Rattle.judge_questions.specs.Questions.{AreRanges, ReadsRanges}
use Rattle.judge_questions.specs.Ranges.{IsRange}
use Rattle.judge_questions.specs.declared.limits.Limits.{Limits}

-- the next word writes no range but r, or none
abbrev pub Gives : List (List ℕ) → Option (Bounds ℕ) → Type 0
Gives old r = (word : List ℕ) (rest : List (List ℕ)) (range : Bounds ℕ) → old ≡ word ∷ rest → IsRange word range → r ≡ Some range

-- ranges of the same parts are the same
same_parts : (l m : Limits) → l.first ≡ m.first → l.second ≡ m.second → l.third ≡ m.third → Some l ≡ Some m
same_parts l m p q r = λ j. Some (record { first = p j; second = q j; third = r j })

-- none at the first word, at the second, at the third
pub fails_first : (count : ℕ) (old : List (List ℕ)) → 1 ≤ count → Gives old None → (ranges more : List (List ℕ)) (limits : Limits) → length ranges ≡ count → AreRanges ranges limits → old ≡ ranges ++ more → ⊥
fails_first count old some none [] more l n h e = omega arith
fails_first count old some none (a ∷ []) more l n h e = let wrong = none a more l.first e h.0 in cc
fails_first count old some none (a ∷ b ∷ []) more l n h e = let wrong = none a (b ∷ more) l.first e h.0 in cc
fails_first count old some none (a ∷ b ∷ c ∷ []) more l n h e = let wrong = none a (b ∷ c ∷ more) l.first e h.0 in cc
fails_first count old some none (a ∷ b ∷ c ∷ d ∷ ranges) more l n h e = h

pub fails_second : (count : ℕ) (old then : List (List ℕ)) (word : List ℕ) → 2 ≤ count → old ≡ word ∷ then → Gives then None → (ranges more : List (List ℕ)) (limits : Limits) → length ranges ≡ count → AreRanges ranges limits → old ≡ ranges ++ more → ⊥
fails_second count old then word some step none [] more l n h e = omega arith
fails_second count old then word some step none (a ∷ []) more l n h e = omega arith
fails_second count old then word some step none (a ∷ b ∷ []) more l n h e = let left : then ≡ b ∷ more = cc in let wrong = none b more l.second left h.1 in cc
fails_second count old then word some step none (a ∷ b ∷ c ∷ []) more l n h e = let left : then ≡ b ∷ c ∷ more = cc in let wrong = none b (c ∷ more) l.second left h.1 in cc
fails_second count old then word some step none (a ∷ b ∷ c ∷ d ∷ ranges) more l n h e = h

pub fails_third : (count : ℕ) (old then last : List (List ℕ)) (word next : List ℕ) → 3 ≤ count → old ≡ word ∷ then → then ≡ next ∷ last → Gives last None → (ranges more : List (List ℕ)) (limits : Limits) → length ranges ≡ count → AreRanges ranges limits → old ≡ ranges ++ more → ⊥
fails_third count old then last word next some step step' none [] more l n h e = omega arith
fails_third count old then last word next some step step' none (a ∷ []) more l n h e = omega arith
fails_third count old then last word next some step step' none (a ∷ b ∷ []) more l n h e = omega arith
fails_third count old then last word next some step step' none (a ∷ b ∷ c ∷ []) more l n h e = let left : last ≡ c ∷ more = cc in let wrong = none c more l.third left h.2 in cc
fails_third count old then last word next some step step' none (a ∷ b ∷ c ∷ d ∷ ranges) more l n h e = h

-- a failure
pub reads_nothing : (count : ℕ) (old new : List (List ℕ)) (result : Option Limits) → result ≡ None → ((ranges more : List (List ℕ)) (limits : Limits) → length ranges ≡ count → AreRanges ranges limits → old ≡ ranges ++ more → ⊥) → ReadsRanges count old result new
reads_nothing count old new result e fails =
    subst (λ r. ReadsRanges count old r new) (sym e) (tt, λ ranges more limits n h is. absurd (fails ranges more limits n h is))

-- one range
pub reads_one : (old new : List (List ℕ)) (word : List ℕ) (f : Bounds ℕ) (m : Limits) → m.first ≡ f → old ≡ word ∷ new → IsRange word f → Gives old (Some f) → m.second ≡ full → m.third ≡ full → ReadsRanges 1 old (Some m) new
reads_one old new word f m is_f step is gives q r = ((word ∷ [], step, refl, (subst (IsRange word) (sym is_f) is, q, r)), given)
  where
    given : (ranges more : List (List ℕ)) (limits : Limits) → length ranges ≡ 1 → AreRanges ranges limits → old ≡ ranges ++ more → Some m ≡ Some limits
    given [] more l n h e = absurd (omega arith)
    given (a ∷ []) more l n h e =
        let same = gives a more l.first e h.0 in
        let first : m.first ≡ l.first = cc in
        same_parts m l first (q ∙ sym h.1) (r ∙ sym h.2)
    given (a ∷ b ∷ ranges) more l n h e = absurd (omega arith)

-- two ranges
pub reads_two : (old then new : List (List ℕ)) (word next : List ℕ) (f g : Bounds ℕ) (m : Limits) → m.first ≡ f → m.second ≡ g → old ≡ word ∷ then → IsRange word f → Gives old (Some f) → then ≡ next ∷ new → IsRange next g → Gives then (Some g) → m.third ≡ full → ReadsRanges 2 old (Some m) new
reads_two old then new word next f g m is_f is_g step is gives step' is' gives' r =
    ((word ∷ next ∷ [], step ∙ ap (λ l. word ∷ l) step', refl, (subst (IsRange word) (sym is_f) is, subst (IsRange next) (sym is_g) is', r)), given)
  where
    given : (ranges more : List (List ℕ)) (limits : Limits) → length ranges ≡ 2 → AreRanges ranges limits → old ≡ ranges ++ more → Some m ≡ Some limits
    given [] more l n h e = absurd (omega arith)
    given (a ∷ []) more l n h e = absurd (omega arith)
    given (a ∷ b ∷ []) more l n h e =
        let left : then ≡ b ∷ more = cc in
        let same = gives a (b ∷ more) l.first e h.0 in
        let same' = gives' b more l.second left h.1 in
        let first : m.first ≡ l.first = cc in
        let second : m.second ≡ l.second = cc in
        same_parts m l first second (r ∙ sym h.2)
    given (a ∷ b ∷ c ∷ ranges) more l n h e = absurd (omega arith)

-- three ranges
pub reads_three : (old then last new : List (List ℕ)) (word next end : List ℕ) (f g k : Bounds ℕ) (m : Limits) → m.first ≡ f → m.second ≡ g → m.third ≡ k → old ≡ word ∷ then → IsRange word f → Gives old (Some f)
    → then ≡ next ∷ last → IsRange next g → Gives then (Some g) → last ≡ end ∷ new → IsRange end k → Gives last (Some k) → ReadsRanges 3 old (Some m) new
reads_three old then last new word next end f g k m is_f is_g is_k step is gives step' is' gives' step'' is'' gives'' =
    ((word ∷ next ∷ end ∷ [], step ∙ ap (λ l. word ∷ l) (step' ∙ ap (λ l. next ∷ l) step''), refl, (subst (IsRange word) (sym is_f) is, subst (IsRange next) (sym is_g) is', subst (IsRange end) (sym is_k) is'')), given)
  where
    given : (ranges more : List (List ℕ)) (limits : Limits) → length ranges ≡ 3 → AreRanges ranges limits → old ≡ ranges ++ more → Some m ≡ Some limits
    given [] more l n h e = absurd (omega arith)
    given (a ∷ []) more l n h e = absurd (omega arith)
    given (a ∷ b ∷ []) more l n h e = absurd (omega arith)
    given (a ∷ b ∷ c ∷ []) more l n h e =
        let left : then ≡ b ∷ c ∷ more = cc in
        let left' : last ≡ c ∷ more = cc in
        let same = gives a (b ∷ c ∷ more) l.first e h.0 in
        let same' = gives' b (c ∷ more) l.second left h.1 in
        let same'' = gives'' c more l.third left' h.2 in
        let first : m.first ≡ l.first = cc in
        let second : m.second ≡ l.second = cc in
        let third : m.third ≡ l.third = cc in
        same_parts m l first second third
    given (a ∷ b ∷ c ∷ d ∷ ranges) more l n h e = absurd (omega arith)
