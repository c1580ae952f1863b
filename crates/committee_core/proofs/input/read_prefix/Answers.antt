use Rattle.std.proofs.Common.{◌≡◌, ◌++◌, length, take, arith, inr, refl, ap, Err, length-append}
use Rattle.std.proofs.KnownBytes.{Consumes-trans}
use Rattle.std.proofs.lemmas.List.{length-take-le}
use Rattle.committee_core.specs.declared.error.RunError.TheVariants.{Memory}
use Rattle.committee_core.proofs.Refusals.{err_is}
use Rattle.committee_core.proofs.input.read_prefix.Goals as goal

-- what was kept, and what was counted after it
pub returns-in_err-total-clause-too_many : goal.returns-in_err-total-clause-too_many
returns-in_err-total-clause-too_many g c = λ memory.
    let prefix = take c.in_ok-kept.kept c.fill.new.room in
    let is = err_is c.from_residual-in_err-total.result c.in_err-total.field-0.0 Memory c.from_residual-in_err-total.ensures.1 memory in
    let (rest, read, many) = c.in_err-total.ensures.too_many (ap Err is) in
    let len : length prefix ≡ c.in_ok-kept.kept = length-take-le c.in_ok-kept.kept c.fill.new.room (omega (arith, c.in_ok-kept.ensures.within)) in
    (prefix ++ rest, Consumes-trans _ _ _ prefix rest c.in_ok-kept.ensures.bytes read, omega (arith, len, many, length-append prefix rest))

pub returns-clause-bytes : goal.returns-clause-bytes
returns-clause-bytes g c =
    let prefix = take c.in_ok-kept.kept c.fill.new.room in
    let (rest, gave, count) = c.in_ok-total.ensures.bytes in
    let len : length prefix ≡ c.in_ok-kept.kept = length-take-le c.in_ok-kept.kept c.fill.new.room (omega (arith, c.in_ok-kept.ensures.within)) in (
      prefix ++ rest,
      record { bytes = Consumes-trans _ _ _ prefix rest c.in_ok-kept.ensures.bytes gave.bytes; at_end = gave.at_end },
      record { rest = rest; whole = refl; enough = inr (omega arith) },
      omega (arith, len, count, length-append prefix rest),
    )
