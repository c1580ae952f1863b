use Rattle.std.proofs.Common.{List, ℕ, ◌∙◌, subst}
use Rattle.std.specs.Prelude.{Err, IfErr, IfOk, MatchResult, Ok, Result}
use Rattle.committee_certificates.specs.Certificates.{parts}
use Rattle.committee_certificates.specs.declared.certificate.Certificate.{Certificate}
use Rattle.commonware_utils.specs.Codec.{Bounds}
use Rattle.judge_verdicts.specs.Readings.{a_certificate}
use Rattle.judge_verdicts.specs.Whole.{IsMisread, IsWhole}
use Rattle.judge_verdicts.specs.declared.whole.Misread.{Misread}
use Rattle.judge_verdicts.specs.declared.whole.Misread.TheVariants.{Fault, LeftOver}
use Rattle.judge_verdicts.proofs.Judged.{certificate_read}
use Rattle.judge_verdicts.proofs.Results.{if_ok_so}
use Rattle.judge_verdicts.proofs.certificates.read_certificate.Goals as goal

-- a certificate is read by its parts
by_parts : {A : Type 0} (v s : Bounds ℕ) (text : List ℕ) (read : Result (Certificate A) Misread) → MatchResult read (IsWhole (certificate_read A v s) text) (IsMisread (certificate_read A v s) text)
    → MatchResult read (λ certificate. IsWhole (a_certificate v s) text (parts certificate)) (IsMisread (a_certificate v s) text)
by_parts v s text (Ok certificate) h = record { writable = h.writable; allowed = h.allowed; begins = h.begins }
by_parts v s text (Err (Fault error)) h = h
by_parts v s text (Err (LeftOver left)) (certificate, rest, h, count, some) = (parts certificate, rest, record { writable = h.writable; allowed = h.allowed; begins = h.begins }, count, some)

pub returns-clause-read : goal.returns-clause-read
returns-clause-read g c =
    let read = if_ok_so _ _ c.read_whole.result (by_parts c.range-full.result c.range-full.result c.args.text.now) c.read_whole.ensures.read in
    subst (λ r. IfOk c.read_whole.result (λ read. MatchResult read (λ certificate. IsWhole (a_certificate r r) c.args.text.now (parts certificate)) (IsMisread (a_certificate r r) c.args.text.now)))
    (c.range-full.ensures ∙ c.full.ensures) read

pub returns-clause-memory : goal.returns-clause-memory
returns-clause-memory g c =
    subst (λ r. IfErr c.read_whole.result (λ _. ¬ (a_certificate r r).MemoryFree c.args.text.now)) (c.range-full.ensures ∙ c.full.ensures)
    c.read_whole.ensures.memory
