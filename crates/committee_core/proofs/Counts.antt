-- What `parse` makes of one to ten decimal digits.
use Rattle.std.proofs.Common.{◌≡◌, ℕ, ◌^◌, ◌<◌, List, length, Result, Ok, Err, get_or, subst, ap, sym, ◌∙◌, arith, All, None}
use Rattle.std.specs.Char.{IsAsciiDigit}
use Rattle.std.specs.Result.{OkIff, result_ok}
use Rattle.std.specs.Int.NonZero.{non_zero_u32_get}
use Rattle.std.specs.Str.Parse.{digits_value, ParsesUnsigned}
use Rattle.std.specs.declared.num.NonZeroU32.{NonZeroU32}
use Rattle.std.proofs.Math.Bridge.{le_prop}
use Rattle.std.proofs.lemmas.Str.Parse.{IsNumeralModel, numerals_by_value, tells_by_index, parse_digits}
use Rattle.committee_core.specs.Command.{IsCount}

-- all bytes are decimal digits
abbrev AreDigits : List ℕ → Type 0
AreDigits word = (i : ℕ) → i < length word → IsAsciiDigit (get_or word i 0)

-- the digits' decimal value is what `parse` reads
by_value : IsNumeralModel AreDigits (digits_value 10)
by_value = numerals_by_value AreDigits tells_by_index

-- `parse` reads the digits' value where it is below 2^32, and else fails
parse-digits : {E : Type 0} (word : List ℕ) (r : Result ℕ E) → ParsesUnsigned 32 10 word r → All IsAsciiDigit word → OkIff r ((0 < length word) × (digits_value 10 word < 2 ^ 32)) (digits_value 10 word)
parse-digits word r h digits = parse_digits by_value 32 word r h (λ i inside. digits i 0 inside)

-- where `parse` fails, the word writes no count
pub no_count : {E : Type 0} (word : List ℕ) (r : Result ℕ E) → ParsesUnsigned 32 10 word r → result_ok r ≡ None → (n : NonZeroU32) → ¬ IsCount word n
no_count word (Ok x) h failed n count = cc
no_count word (Err e) h failed n count =
    let refused = parse-digits word (Err e) h count.digits in
    refused (omega (arith, count.some), omega (arith, count.at_most))

-- the count with this value
made : (value : ℕ) → 0 < value → NonZeroU32
made value some = record { value = value; ok = some }

-- counts with one value are one count
one_value : (n m : NonZeroU32) → non_zero_u32_get n ≡ non_zero_u32_get m → n ≡ m
unfolding made
one_value n m same = subst (λ v. (some : 0 < v) → n ≡ made v some) same (λ some. ap (λ h. made n.value h) (le_prop n.ok some)) m.ok

-- a word writes one count
pub one_count : (word : List ℕ) (n m : NonZeroU32) → IsCount word n → IsCount word m → n ≡ m
one_count word n m h k = one_value n m (sym h.value ∙ k.value)
