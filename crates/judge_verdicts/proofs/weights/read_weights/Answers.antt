use Rattle.std.proofs.Common.{◌≡◌, ◌≤◌, ◌<◌, ◌^◌, List, ℕ, Err, ap, arith, length, subst, ◌∙◌}
use Rattle.committee_weights.specs.Refusals.{IsRefusedAs}
use Rattle.committee_weights.specs.declared.weights.error.WeightsError.{WeightsError}
use Rattle.committee_weights.specs.declared.weights.error.WeightsError.TheVariants.{Empty, TooMany, Zero, Overflow}
use Rattle.judge_verdicts.specs.Weights.{AreRefused, listed_numbers}
use Rattle.judge_verdicts.specs.Whole.{IsWhole}
use Rattle.judge_verdicts.proofs.Needs.{numbers_need}
use Rattle.judge_verdicts.proofs.Results.{on_error}
use Rattle.judge_verdicts.proofs.weights.read_weights.Goals as goal

-- the numbers that an input lists, where a copy of them is refused
refused : (text copy numbers : List ℕ) (error : WeightsError) → IsWhole listed_numbers text numbers → copy ≡ numbers → IsRefusedAs copy error → AreRefused text error
refused text copy numbers error whole same why = (numbers, whole, subst (λ l. IsRefusedAs l error) same why)

pub returns-in_err-numbers-clause-memory : goal.returns-in_err-numbers-clause-memory
returns-in_err-numbers-clause-memory g c = on_error _ c.from_residual.result c.in_err-numbers.ensures.memory

pub returns-in_err-numbers_of-in-Ok-clause-memory : goal.returns-in_err-numbers_of-in-Ok-clause-memory
returns-in_err-numbers_of-in-Ok-clause-memory g c =
    let whole = rw c.in-Ok.is at c.in_ok-numbers.ensures.read in
    let some = c.in_err-numbers_of-in-Ok.ensures.memory in
    on_error _ c.from_residual-in_err-numbers_of-in-Ok.result (numbers_need c.args.list.now c.in-Ok.numbers.items whole (omega (arith, ap length c.deref.ensures.value, some)))

pub returns-in-Err-Empty-clause-listed : goal.returns-in-Err-Empty-clause-listed
returns-in-Err-Empty-clause-listed g c =
    let whole = rw c.in-Ok.is at c.in_ok-numbers.ensures.read in
    let copy = c.in_ok-numbers_of-in-Ok.field-0.items in
    let same : copy ≡ c.in-Ok.numbers.items = c.in_ok-numbers_of-in-Ok.ensures.numbers ∙ c.deref.ensures.value in
    refused c.args.list.now copy c.in-Ok.numbers.items Empty whole same ((c.in-Err-Empty.ensures.refused Empty).0 (ap Err c.in-Err-Empty.field-0-is))

pub unreachable-requires : goal.unreachable-requires
unreachable-requires g c =
    let whole = rw c.in-Ok.is at c.in_ok-numbers.ensures.read in
    let copy = c.in_ok-numbers_of-in-Ok.field-0.items in
    let same : copy ≡ c.in-Ok.numbers.items = c.in_ok-numbers_of-in-Ok.ensures.numbers ∙ c.deref.ensures.value in
    let many : 2 ^ 32 ≤ length copy = (c.in-Err-TooMany.ensures.refused TooMany).0 (ap Err c.in-Err-TooMany.field-0-is) in
    let short : length c.in-Ok.numbers.items < 2 ^ 32 = whole.writable.short in
    omega (arith, ap length same)

pub returns-in-Err-Zero-clause-listed : goal.returns-in-Err-Zero-clause-listed
returns-in-Err-Zero-clause-listed g c =
    let whole = rw c.in-Ok.is at c.in_ok-numbers.ensures.read in
    let copy = c.in_ok-numbers_of-in-Ok.field-0.items in
    let same : copy ≡ c.in-Ok.numbers.items = c.in_ok-numbers_of-in-Ok.ensures.numbers ∙ c.deref.ensures.value in
    let i = c.in-Err-Zero.index in
    refused c.args.list.now copy c.in-Ok.numbers.items (Zero i) whole same ((c.in-Err-Zero.ensures.refused (Zero i)).0 (ap Err c.in-Err-Zero.field-0-is))

pub returns-in-Ok-clause-listed : goal.returns-in-Ok-clause-listed
returns-in-Ok-clause-listed g c =
    let whole = rw c.in-Ok.is at c.in_ok-numbers.ensures.read in
    let copy = c.in_ok-numbers_of-in-Ok.field-0.items in
    let same : copy ≡ c.in-Ok.numbers.items = c.in_ok-numbers_of-in-Ok.ensures.numbers ∙ c.deref.ensures.value in
    let i = c.in-Err-Overflow.index in
    refused c.args.list.now copy c.in-Ok.numbers.items (Overflow i) whole same ((c.in-Err-Overflow.ensures.refused (Overflow i)).0 (ap Err c.in-Err-Overflow.field-0-is))
