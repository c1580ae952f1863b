-- The parts of a word that writes a range.
use Rattle.std.proofs.Common.{◌≡◌, ℕ, ◌+◌, ◌<◌, ◌==◌, Bool, false, cond, not, List, [], ◌∷◌, ◌++◌, length, take, drop, position, Option, Some, None, suc, refl, sym, ap, subst, arith, ◌∙◌}
use Rattle.std.specs.Char.{digit_value}
use Rattle.std.specs.List.{position_or_len}
use Rattle.std.specs.Str.Parse.{AllDigits}
use Rattle.std.proofs.lemmas.Bool.{cond-true, lt-ltb}
use Rattle.std.proofs.lemmas.Bool.Decides.{nat_tests}
use Rattle.std.proofs.lemmas.List.{length-append}
use Rattle.std.proofs.Math.Seq.{take-append_seam}
use Rattle.commonware_base.specs.Range.{Bounds}
use Rattle.judge_questions.specs.Ranges.{IsLower, IsRange, IsUpper}
use Rattle.judge_questions.proofs.Digits.{is_ascii}

-- one more element that isn't found
further : (b : Bool) (n m : ℕ) → b ≡ false → n ≡ m → cond (not b) (1 + n) 0 ≡ suc m
further b n m e same = rw e (omega arith)

-- a digit is no dot
no_dot : (c : ℕ) → digit_value c < 10 → (c == 46) ≡ false
no_dot c h = let ascii = is_ascii c h in grind (arith, nat_tests)

-- digits before a dot
before_dot : (digits more : List ℕ) → AllDigits 10 digits → position_or_len (λ b. b == 46) (digits ++ 46 ∷ more) ≡ length digits
before_dot [] more all = refl
before_dot (d ∷ digits) more all =
    further (d == 46) (position_or_len (λ b. b == 46) (digits ++ 46 ∷ more)) (length digits) (no_dot d all.0) (before_dot digits more all.1)

-- so the dot is found after them
dot_place : (digits more : List ℕ) → AllDigits 10 digits → position (λ b. b == 46) (digits ++ 46 ∷ more) ≡ Some (length digits)
dot_place digits more all =
    let at = before_dot digits more all in
    let long : position_or_len (λ b. b == 46) (digits ++ 46 ∷ more) < length (digits ++ 46 ∷ more) = omega (arith, at, length-append digits (46 ∷ more)) in
    cond-true _ _ _ (lt-ltb _ _ long) ∙ ap Some at

-- a lower bound is digits
lower_digits : (word : List ℕ) (bound : Option ℕ) → IsLower word bound → AllDigits 10 word
lower_digits word (Some n) h = h.digits.1
lower_digits word None h = subst (AllDigits 10) (sym h) tt

-- what follows the prefix of a list
drop-append_seam : (xs ys : List ℕ) → drop (length xs) (xs ++ ys) ≡ ys
drop-append_seam [] ys = refl
drop-append_seam (x ∷ xs) ys = drop-append_seam xs ys

-- The parts at the place of the first dot are those of the range.
pub record Parts (start rest : List ℕ) (range : Bounds ℕ) : Type 0 where
  pub end : List ℕ
  pub dots : rest ≡ 46 ∷ 46 ∷ end
  pub above : IsLower start range.lower
  pub below : IsUpper end range.upper

pub parts : (word : List ℕ) (range : Bounds ℕ) (at : ℕ) → IsRange word range → position (λ b. b == 46) word ≡ Some at → Parts (take at word) (drop at word) range
parts word range at h place =
    let whole : word ≡ h.lower ++ (46 ∷ 46 ∷ h.upper) = h.whole in
    let found = ap (position (λ b. b == 46)) whole ∙ dot_place h.lower (46 ∷ h.upper) (lower_digits h.lower range.lower h.above) in
    let same : at ≡ length h.lower = cc in
    let front : take at word ≡ h.lower = ap (λ n. take n word) same ∙ ap (take (length h.lower)) whole ∙ take-append_seam h.lower (46 ∷ 46 ∷ h.upper) in
    record {
      end = h.upper;
      dots = ap (λ n. drop n word) same ∙ ap (drop (length h.lower)) whole ∙ drop-append_seam h.lower (46 ∷ 46 ∷ h.upper);
      above = subst (λ w. IsLower w range.lower) (sym front) h.above;
      below = h.below;
    }

-- a word without a dot writes no range
pub no_range : (word : List ℕ) (range : Bounds ℕ) → position (λ b. b == 46) word ≡ None → IsRange word range → ⊥
no_range word range none h =
    let found = ap (position (λ b. b == 46)) h.whole ∙ dot_place h.lower (46 ∷ h.upper) (lower_digits h.lower range.lower h.above) in
    absurd (cc)

-- ranges of the same bounds are the same
pub same_range : (r s : Bounds ℕ) → r.lower ≡ s.lower → r.upper ≡ s.upper → r ≡ s
same_range r s p q = λ j. record { lower = p j; upper = q j }
