use Rattle.std.proofs.Common.{◌≡◌, ◌<◌, ◌^◌, take}
use Rattle.std.specs.Str.Parse.{AllDigits, digits_value}
use Rattle.judge_questions.proofs.ranges.read_number.Given as goal

-- the digits so far write the number
abbrev pub invariant-loop-digit : goal.invariant-loop-digit
invariant-loop-digit l =
    AllDigits 10 (take l.digit-index l.word) × (digits_value 10 (take l.digit-index l.word) ≡ l.number) × (l.number < 2 ^ 64)
