use Rattle.std.proofs.Common.{◌≡◌, ◌+◌, ◌-◌, ◌*◌, ◌<◌, get_or, length, arith, take, subst, sym, ap, ◌∙◌}
use Rattle.std.specs.Str.Parse.{AllDigits, digits_value}
use Rattle.std.proofs.lemmas.List.{take_all}
use Rattle.judge_questions.proofs.Digits.{ascii_value, digit_at, front_more_le, is_ascii}
use Rattle.std.proofs.lemmas.Int.Digits.{digits_more, digits_value_more}
use Rattle.judge_questions.proofs.ranges.read_number.Goals as goal

pub returns-then-not-is_ascii_digit-clause-given : goal.returns-then-not-is_ascii_digit-clause-given
returns-then-not-is_ascii_digit-clause-given c = λ n h.
    let byte = get_or c.args.word.now c.loop-digit.digit-index 0 in
    let digit = is_ascii byte (digit_at c.args.word.now c.loop-digit.digit-index h.digits.1 c.loop-digit-test.true) in
    let other = c.if-not-is_ascii_digit.ensures.cases in
    absurd (omega arith)

pub returns-in_err-checked_mul-clause-given : goal.returns-in_err-checked_mul-clause-given
returns-in_err-checked_mul-clause-given c = λ n h.
    let most = front_more_le c.args.word.now c.loop-digit.digit-index c.loop-digit-test.true in
    let so_far = c.loop-digit.invariant.1 in
    let fits : c.loop-digit.number * 10 < 18446744073709551616 = omega (arith, h.value, h.fits) in
    absurd (c.in_err-checked_mul.ensures fits)

pub returns-in_err-number-clause-given : goal.returns-in_err-number-clause-given
returns-in_err-number-clause-given c = λ n h.
    let i = c.loop-digit.digit-index in
    let most = front_more_le c.args.word.now i c.loop-digit-test.true in
    let so_far = c.loop-digit.invariant.1 in
    let ten = c.in_ok-checked_mul.ensures.1 in
    let ascii = c.if-not-is_ascii_digit.ensures.cases in
    let value = ascii_value (get_or c.args.word.now i 0) ascii.0 ascii.1 in
    let fits : c.in_ok-checked_mul.field-0 + (get_or c.args.word.now i 0 - 48) < 18446744073709551616 = omega (arith, h.value, h.fits) in
    absurd (c.in_err-number.ensures fits)

pub loop-digit-preserved : goal.loop-digit-preserved
loop-digit-preserved c =
    let i = c.loop-digit.digit-index in
    let word = c.args.word.now in
    let ascii = c.if-not-is_ascii_digit.ensures.cases in
    let value = ascii_value (get_or word i 0) ascii.0 ascii.1 in
    let ten = c.in_ok-checked_mul.ensures.1 in
    let sum = c.in_ok-number.ensures.1 in
    let so_far = c.loop-digit.invariant.1 in
    (digits_more 10 word i c.loop-digit-test.true c.loop-digit.invariant.0 c.if-not-is_ascii_digit.ensures.bound, omega (arith, digits_value_more 10 word i c.loop-digit-test.true), omega (arith, c.in_ok-number.ensures.0))

pub returns-clause-number : goal.returns-clause-number
returns-clause-number c =
    let word = c.args.word.now in
    let some : 0 < length word = grind arith in
    let all : take c.loop-digit.digit-index word ≡ word = take_all c.loop-digit.digit-index word c.loop-digit-test.false in
    record {
      digits = (some, subst (AllDigits 10) all c.loop-digit.invariant.0);
      value = ap (digits_value 10) (sym all) ∙ c.loop-digit.invariant.1;
      fits = c.loop-digit.invariant.2;
    }
