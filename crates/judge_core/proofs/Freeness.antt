-- Lines that are answered without an allocation, and one that isn't.
use Rattle.std.proofs.Common.{◌≡◌, ℕ, ◌+◌, ◌-◌, ◌<◌, ◌≤◌, ◌==◌, Bool, true, false, cond, suc, List, [], ◌∷◌, ◌++◌, length, get_or, take, sym, ap, subst, arith, ◌∙◌, append_assoc}
use Rattle.std.specs.Str.Lines.{lines, strip_carriage_return}
use Rattle.std.proofs.lemmas.Bool.Decides.{nat_tests}
use Rattle.std.proofs.lemmas.List.{length-take-le}
use Rattle.judge_core.specs.Answered.{Continues, HasNoFeed, asked_from, is_asked}
use Rattle.judge_core.specs.Lines.{IsComment}
use Rattle.judge_core.specs.Memory.{AreMemoryFree}
use Rattle.judge_core.proofs.Answering.{asked_then, asks, last_asked, line_then, no_feed-append, only_asked}

-- so are the first of them, and those after
pub free_first : (l m : List (ℕ × List ℕ)) → AreMemoryFree (l ++ m) → AreMemoryFree l
free_first [] m free = tt
free_first (line ∷ l) m free = (free.0, free_first l m free.1)

pub free_after : (l m : List (ℕ × List ℕ)) → AreMemoryFree (l ++ m) → AreMemoryFree m
free_after [] m free = free
free_after (line ∷ l) m free = free_after l m free.1

-- a line that asks, and is too long
long_unfree : (n : ℕ) (line : List ℕ) → is_asked line ≡ true → 4096 ≤ length line → ¬ AreMemoryFree (asked_from n (line ∷ []))
long_unfree n line asked long free = let one : AreMemoryFree ((n, line) ∷ []) = subst AreMemoryFree (only_asked n line asked) free in let short : length line < 4096 = one.0.0 in omega arith

-- a line that is no comment and isn't empty asks
pub asking : (b : ℕ) (line : List ℕ) → ¬ IsComment (b ∷ line) → is_asked (b ∷ line) ≡ true
asking b line none = asks (b ∷ line) (grind (arith, nat_tests)) (λ is. none (line, ap (λ h. h ∷ line) is))

-- a whole line that is too long
pub whole_unfree : (n : ℕ) (line : List ℕ) → 4096 < length line → ¬ IsComment line → ¬ AreMemoryFree (asked_from n (line ∷ []))
whole_unfree n [] long none free = omega arith
whole_unfree n (b ∷ line) long none free = long_unfree n (b ∷ line) (asking b line none) (omega arith) free

-- the same where a carriage return may be left out
pub stripped_unfree : (n : ℕ) (line : List ℕ) → 4096 < length line → ¬ IsComment line → ¬ AreMemoryFree (asked_from n (strip_carriage_return line ∷ []))
stripped_unfree n [] long none free = omega arith
stripped_unfree n (b ∷ line) long none free = by (get_or (b ∷ line) (length (b ∷ line) - 1) 0 == 13) free
  where
    shorter : take (length (b ∷ line) - 1) (b ∷ line) ≡ b ∷ take (length line - 1) line
    shorter = let e : length (b ∷ line) - 1 ≡ suc (length line - 1) = omega arith in ap (λ k. take k (b ∷ line)) e

    other : ¬ IsComment (b ∷ take (length line - 1) line)
    other (rest, is) = none (line, cc)

    by : (last : Bool) → AreMemoryFree (asked_from n (cond last (take (length (b ∷ line) - 1) (b ∷ line)) (b ∷ line) ∷ [])) → ⊥
    by true free =
        let len : length (take (length line - 1) line) ≡ length line - 1 = length-take-le (length line - 1) line (omega arith) in
        long_unfree n (b ∷ take (length line - 1) line) (asking b (take (length line - 1) line) other) (omega arith) (subst (λ l. AreMemoryFree (asked_from n (l ∷ []))) shorter free)
    by false free = whole_unfree n (b ∷ line) long none free

module _ (numbered : Bool) (n : ℕ) (pending gone : List ℕ) (m : ℕ) (back said noted : List ℕ) (judged : Bool) (so_far : Continues numbered n pending gone m back said noted judged) where
  -- a line that ends in the piece isn't answered without an allocation
  pub ended_unfree : (head rest piece : List ℕ) → piece ≡ gone ++ (head ++ 10 ∷ rest) → HasNoFeed back → HasNoFeed head → ¬ AreMemoryFree (asked_from m (strip_carriage_return (back ++ head) ∷ []))
      → ¬ AreMemoryFree (asked_from n (lines (pending ++ piece)))
  ended_unfree head rest piece split none none' unfree free =
      let whole : asked_from n (lines (pending ++ piece)) ≡ so_far.0 ++ (asked_from m (strip_carriage_return (back ++ head) ∷ []) ++ asked_from (m + 1) (lines rest)) =
      ap (λ p. asked_from n (lines (pending ++ p))) split
      ∙ so_far.1 (head ++ 10 ∷ rest)
      ∙ ap (λ l. so_far.0 ++ asked_from m (lines l)) (sym (append_assoc back head (10 ∷ rest)))
      ∙ ap (λ ls. so_far.0 ++ asked_from m ls) (line_then (back ++ head) rest (no_feed-append back head none none'))
      ∙ ap (λ ls. so_far.0 ++ ls) (asked_then m (strip_carriage_return (back ++ head)) (lines rest)) in
      unfree (free_first (asked_from m (strip_carriage_return (back ++ head) ∷ [])) (asked_from (m + 1) (lines rest)) (free_after so_far.0 _ (subst AreMemoryFree whole free)))

  -- a line that goes on past the piece isn't
  pub going_unfree : (rest piece : List ℕ) → piece ≡ gone ++ rest → HasNoFeed (back ++ rest) → ¬ AreMemoryFree (asked_from m ((back ++ rest) ∷ [])) → ¬ AreMemoryFree (asked_from n (lines (pending ++ piece)))
  going_unfree rest piece split none unfree free =
      let whole : asked_from n (lines (pending ++ piece)) ≡ so_far.0 ++ asked_from m ((back ++ rest) ∷ []) =
      ap (λ p. asked_from n (lines (pending ++ p))) split ∙ so_far.1 rest ∙ ap (λ ls. so_far.0 ++ ls) (sym (last_asked m (back ++ rest) none)) in
      unfree (free_after so_far.0 _ (subst AreMemoryFree whole free))
