-- Decimal digits, and the number that they write.
use Rattle.std.proofs.Common.{◌≡◌, ℕ, ◌+◌, ◌*◌, ◌<◌, ◌≤◌, List, [], ◌∷◌, ◌++◌, length, take, drop, get_or, refl, ap, arith, zero, suc, take-append-drop}
use Rattle.std.specs.Char.{digit_value}
use Rattle.std.specs.Str.Parse.{AllDigits, digits_value, digits_value_after}
use Rattle.std.proofs.lemmas.Bool.Decides.{nat_tests}
use Rattle.std.proofs.lemmas.Int.Digits.{digits_value_more}

-- more digits write no smaller number
after_le : (n : ℕ) (ds : List ℕ) → n ≤ digits_value_after 10 n ds
after_le n [] = omega arith
after_le n (d ∷ ds) = omega (arith, after_le (n * 10 + digit_value d) ds)

-- digits after digits
after_append : (n : ℕ) (ds es : List ℕ) → digits_value_after 10 n (ds ++ es) ≡ digits_value_after 10 (digits_value_after 10 n ds) es
after_append n [] es = refl
after_append n (d ∷ ds) es = after_append (n * 10 + digit_value d) ds es

-- the first digits write no greater number than all
front_le : (ds : List ℕ) (i : ℕ) → digits_value 10 (take i ds) ≤ digits_value 10 ds
front_le ds i =
    omega (arith, after_append 0 (take i ds) (drop i ds), ap (digits_value 10) (take-append-drop i ds), after_le (digits_value 10 (take i ds)) (drop i ds))

-- nor does one digit more
pub front_more_le : (ds : List ℕ) (i : ℕ) → i < length ds → digits_value 10 (take i ds) * 10 + digit_value (get_or ds i 0) ≤ digits_value 10 ds
front_more_le ds i inside = omega (arith, digits_value_more 10 ds i inside, front_le ds (i + 1))

-- each of the digits is one
pub digit_at : (ds : List ℕ) (i : ℕ) → AllDigits 10 ds → i < length ds → digit_value (get_or ds i 0) < 10
digit_at [] i all inside = absurd (omega arith)
digit_at (d ∷ ds) zero all inside = all.0
digit_at (d ∷ ds) (suc i) all inside = digit_at ds i all.1 (omega arith)

-- a decimal digit is an ASCII one
pub is_ascii : (c : ℕ) → digit_value c < 10 → (48 ≤ c) × (c ≤ 57)
is_ascii c h = (grind (arith, nat_tests), grind (arith, nat_tests))

-- and its value
pub ascii_value : (c : ℕ) → 48 ≤ c → c ≤ 57 → digit_value c + 48 ≡ c
ascii_value c low high = grind (arith, nat_tests)
