use Rattle.std.proofs.Common.{List, ℕ, Vec, ◌∙◌, subst}
use Rattle.std.specs.Prelude.{Err, IfErr, IfOk, MatchResult, Ok, Result}
use Rattle.commonware_utils.specs.Codec.{Bounds}
use Rattle.judge_verdicts.specs.Readings.{a_u64, list_of}
use Rattle.judge_verdicts.specs.Whole.{IsMisread, IsWhole}
use Rattle.judge_verdicts.specs.declared.whole.Misread.{Misread}
use Rattle.judge_verdicts.specs.declared.whole.Misread.TheVariants.{Fault, LeftOver}
use Rattle.judge_verdicts.proofs.Results.{if_ok_so}
use Rattle.judge_verdicts.proofs.Seen.{vec_of_items}
use Rattle.judge_verdicts.proofs.weights.read_numbers.Goals as goal

-- what is read into a vector is read as its list
by_items : {A : Type 0} (range : Bounds ℕ) (text : List ℕ) (read : Result (Vec ℕ A) Misread) → MatchResult read (IsWhole (vec_of_items A range a_u64) text) (IsMisread (vec_of_items A range a_u64) text)
    → MatchResult read (λ numbers. IsWhole (list_of range a_u64) text numbers.items) (IsMisread (list_of range a_u64) text)
by_items range text (Ok numbers) h = record { writable = h.writable; allowed = h.allowed; begins = h.begins }
by_items range text (Err (Fault error)) h = h
by_items range text (Err (LeftOver left)) (numbers, rest, h, count, some) =
    (numbers.items, rest, record { writable = h.writable; allowed = h.allowed; begins = h.begins }, count, some)

pub returns-clause-read : goal.returns-clause-read
returns-clause-read g c =
    let read = if_ok_so _ _ c.read_whole.result (by_items c.range.result c.args.list.now) c.read_whole.ensures.read in
    subst (λ r. IfOk c.read_whole.result (λ read. MatchResult read (λ numbers. IsWhole (list_of r a_u64) c.args.list.now numbers.items) (IsMisread (list_of r a_u64) c.args.list.now)))
    (c.range.ensures ∙ c.full.ensures) read

pub returns-clause-memory : goal.returns-clause-memory
returns-clause-memory g c =
    subst (λ r. IfErr c.read_whole.result (λ _. ¬ (list_of r a_u64).MemoryFree c.args.list.now)) (c.range.ensures ∙ c.full.ensures) c.read_whole.ensures.memory
