-- The encoding of a certificate: its value as a list of bytes, and then its signers as a set of participants.
use Rattle.std.specs.Prelude.{◌≡◌, ℕ, List, ◌++◌, Bool, ◌&&◌, nat_eq}
use Rattle.std.specs.Cmp.Lexicographic.{pointwise}
use Rattle.std.specs.Ordering.{nat_cmp}
use Rattle.commonware_base.specs.Bytes.{byte, byte_fault}
use Rattle.commonware_base.specs.Fault.{Fault}
use Rattle.commonware_base.specs.Lists.{list_enc, IsWritableList, IsAllowedList, IsListMemoryFree, ListFault}
use Rattle.commonware_base.specs.Range.{Bounds}
use Rattle.commonware_base.specs.Sequence.{sequence_enc, IsWritableSequence, IsAllowedSequence, SequenceFault}
use Rattle.commonware_base.specs.Text.{IsByte}
use Rattle.commonware_base.specs.Varint.{varint, varint_fault}
use Rattle.commonware_base.specs.Words.{IsWord}
use Rattle.commonware_ordered.specs.Sets.{IsWritableSet, SetFault}
use Rattle.committee_certificates.specs.declared.certificate.Certificate.{Certificate}

-- the bytes of the value, and the signers
abbrev pub parts : {A : Type 0} → Certificate A → List ℕ × List ℕ
parts certificate = (certificate.value.items, certificate.signers)

-- both parts are equal, place by place
abbrev pub are_equal_parts : List ℕ × List ℕ → List ℕ × List ℕ → Bool
are_equal_parts p q = pointwise nat_eq p.0 q.0 && pointwise nat_eq p.1 q.1

-- the bytes of the value as a list, and then those of the signers as a set
abbrev pub certificate_enc : List ℕ × List ℕ → List ℕ
certificate_enc = sequence_enc (list_enc byte) (list_enc varint)

-- the value can be written as a list of bytes, and the signers as a set of participants
abbrev pub IsWritableCertificate : List ℕ × List ℕ → Type 0
IsWritableCertificate = IsWritableSequence (IsWritableList IsByte) (IsWritableSet IsWord nat_cmp)

-- the value's length is in the range
abbrev pub IsAllowedValue : Bounds ℕ → List ℕ → Type 0
IsAllowedValue range = IsAllowedList range (λ _. Unit {0})

-- the number of signers is in the range
abbrev pub AreAllowedSigners : Bounds ℕ → List ℕ → Type 0
AreAllowedSigners range = IsAllowedList range (λ _. Unit {0})

-- the length of each part is in its range
abbrev pub IsAllowedCertificate : Bounds ℕ → Bounds ℕ → List ℕ × List ℕ → Type 0
IsAllowedCertificate value signers = IsAllowedSequence (IsAllowedValue value) (λ _. AreAllowedSigners signers)

-- the fault of an input that should begin with a value
abbrev pub ValueFault : Bounds ℕ → List ℕ → Fault → Type 0
ValueFault range = ListFault byte IsByte (λ _. Unit {0}) byte_fault range

-- the fault of an input that should begin with signers
abbrev pub SignersFault : Bounds ℕ → List ℕ → Fault → Type 0
SignersFault range = SetFault varint IsWord nat_cmp (λ _. Unit {0}) varint_fault range

-- The first fault of an input that should begin with a certificate: that of the value; then, where there is none, that
-- of the signers after it.
abbrev pub CertificateFault : Bounds ℕ → Bounds ℕ → List ℕ → Fault → Type 0
CertificateFault value signers =
    SequenceFault (list_enc byte) (IsWritableList IsByte) (IsAllowedValue value) (ValueFault value)
    (λ _. SignersFault signers)

-- A certificate is decoded or refused without an allocation where its value is refused so, or where the value is empty
-- and the signers are decoded or refused so.
pub data IsCertificateMemoryFree (value signers : Bounds ℕ) (text : List ℕ) : Type 0 where
  refused_value : (fault : Fault) → ValueFault value text fault
      → IsListMemoryFree byte_fault (λ _. Unit {0}) value text → IsCertificateMemoryFree value signers text
  empty_value : (rest : List ℕ) → text ≡ varint 0 ++ rest
      → IsListMemoryFree varint_fault (λ _. Unit {0}) signers rest → IsCertificateMemoryFree value signers text
