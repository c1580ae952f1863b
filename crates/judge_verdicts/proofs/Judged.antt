-- A judgement under the ranges that a reader was given is one under the ranges of the question.
use Rattle.std.proofs.Common.{◌≡◌, ℕ, List, refl, sym, subst}
use Rattle.std.specs.Prelude.{Result}
use Rattle.commonware_utils.specs.Codec.{Bounds}
use Rattle.commonware_base.specs.declared.codec.varint.UInt.{UInt}
use Rattle.committee_certificates.specs.laws.CertificateLaws.{certificate_of}
use Rattle.committee_certificates.specs.Certificates.{parts}
use Rattle.committee_certificates.specs.declared.certificate.Certificate.{Certificate}
use Rattle.judge_questions.specs.declared.form.Form.{Form}
use Rattle.judge_questions.specs.declared.limits.Limits.{Limits}
use Rattle.judge_verdicts.specs.Readings.{IsJudged, Reading, a_certificate, a_varint, reading_of}
use Rattle.judge_verdicts.specs.declared.verdict.Verdict.{Verdict}
use Rattle.judge_verdicts.proofs.Seen.{Sees, on, sees_on}

-- the ranges by their parts
abbrev pub limits_of : Bounds ℕ → Bounds ℕ → Bounds ℕ → Limits
limits_of a b c = record { first = a; second = b; third = c }

-- equal parts make equal ranges
pub same_limits : (l : Limits) (a b c : Bounds ℕ) → a ≡ l.first → b ≡ l.second → c ≡ l.third → limits_of a b c ≡ l
same_limits l a b c p q r = λ j. record { first = p j; second = q j; third = r j }

-- a judgement of the form that the question names
pub judged_along : {E : Type 0} (f g : Form) (l m : Limits) (text : List ℕ) (result : Result Verdict E) → f ≡ g → m ≡ l → IsJudged (reading_of g m) text result → IsJudged (reading_of f l) text result
judged_along f g l m text result is are h =
    subst (λ k. IsJudged (reading_of k l) text result) (sym is) (subst (λ k. IsJudged (reading_of g k) text result) are h)

-- a varint as the reader of `UInt` has it
abbrev pub a_uint : Reading
a_uint = on {V = UInt} a_varint (λ v. v.0)

-- it is seen as its number
pub sees_uint : Sees a_uint a_varint
sees_uint = sees_on a_varint (λ v. v.0) (λ n w. (record { 0 = n }, refl))

-- a certificate as its reader has it
abbrev pub certificate_read : (A : Type 0) → Bounds ℕ → Bounds ℕ → Reading
certificate_read A value signers = on {V = Certificate A} (a_certificate value signers) parts

-- it is seen as its parts
pub sees_certificate : {A : Type 0} → A → (value signers : Bounds ℕ) → Sees (certificate_read A value signers) (a_certificate value signers)
sees_certificate alloc value signers =
    sees_on (a_certificate value signers) parts (λ p w. let (c, is) = certificate_of alloc p w in (c, sym is))
