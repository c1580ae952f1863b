-- What an input is read as: values, their encodings, which of them are read, and the first fault of every other input.
use Rattle.std.specs.Prelude.{◌≡◌, ℕ, List, length, Bool, Result, Ok, Err, nat_eq}
use Rattle.std.specs.Ordering.{nat_cmp}
use Rattle.std.specs.Cmp.Lexicographic.{pointwise, slice_cmp}
use Rattle.std.specs.declared.cmp.Ordering.{Ordering}
use Rattle.commonware_utils.specs.Codec.{Accepts, Bounds, Fault, Refuses, Within}
use Rattle.commonware_utils.specs.Codec.{byte, byte_fault, IsByte, IsWord, word_bytes, word_fault, varint, varint_fault}
use Rattle.commonware_utils.specs.Codec.{NumberFault}
use Rattle.commonware_utils.specs.Sequence.{IsOfSize, IsU64, own_bytes, size_fault, u64_bytes, u64_fault}
use Rattle.commonware_utils.specs.Codec.{list_enc, IsWritableList, IsAllowedList, IsListMemoryFree, ListFault}
use Rattle.commonware_utils.specs.Ordered.{IsWritableSet, SetFault, map_enc, IsWritableMap, IsAllowedMap, MapFault}
use Rattle.commonware_utils.specs.Ordered.{IsWritableBiMap, BiMapFault}
use Rattle.commonware_utils.specs.Vec.{IsWritableNonEmpty, NonEmptyFault}
use Rattle.committee_certificates.specs.Certificates.{CertificateFault, IsAllowedCertificate, IsWritableCertificate}
use Rattle.committee_certificates.specs.Certificates.{IsCertificateMemoryFree, certificate_enc}
use Rattle.judge_questions.specs.declared.form.Form.{Form}
use Rattle.judge_questions.specs.declared.form.Form.TheVariants.{U8, U32, U64, Varint, Usize, Participant, Member}
use Rattle.judge_questions.specs.declared.form.Form.TheVariants.{VecU8, VecU32, VecU64, VecVecU8, VecVecVecU8, SetU8}
use Rattle.judge_questions.specs.declared.form.Form.TheVariants.{SetU32, SetParticipant, SetMember, SetBytes20}
use Rattle.judge_questions.specs.declared.form.Form.TheVariants.{SetBytes33, SetBytes48, SetBytes96, SetSetU8}
use Rattle.judge_questions.specs.declared.form.Form.TheVariants.{SetNonEmptyU8, MapU8U8, MapU8SetU8, MapMemberU8}
use Rattle.judge_questions.specs.declared.form.Form.TheVariants.{MapMemberU64, VecMapU8U8, BiMapU8U8}
use Rattle.judge_questions.specs.declared.form.Form.TheVariants.{BiMapMemberMember, NonEmptyU8, NonEmptyNonEmptyU8}
use Rattle.judge_questions.specs.declared.form.Form.TheVariants.{Certificate}
use Rattle.judge_questions.specs.declared.limits.Limits.{Limits}
use Rattle.judge_verdicts.specs.declared.verdict.Verdict.{Verdict}
use Rattle.judge_verdicts.specs.declared.verdict.Verdict.TheVariants.{Accepted, Refused}

-- What is read: the values and their encodings, which values have one and which the limits allow, the first fault of an
-- input, the inputs that are read or refused with no memory, and how many items a value has.
pub record Reading : Type 1 where
  pub Value : Type 0
  pub enc : Value → List ℕ
  pub Writable : Value → Type 0
  pub Allowed : Value → Type 0
  pub HasFault : List ℕ → Fault → Type 0
  pub MemoryFree : List ℕ → Type 0
  pub items : Value → ℕ

-- what a reader reads, by what it says of itself, each value as one item
abbrev pub reading_by : {V : Type 0} → (V → List ℕ) → (V → Type 0) → (V → Type 0) → (List ℕ → Fault → Type 0)
    → (List ℕ → Type 0) → Reading
reading_by {V} bytes writable allowed fault free = record {
  Value = V;
  enc = bytes;
  Writable = writable;
  Allowed = allowed;
  HasFault = fault;
  MemoryFree = free;
  items = λ _. 1;
}

-- a verdict is right: the input begins with an allowed value of that number of items, which that number of bytes
-- follows; or the error names the first fault of the input, so it isn't `Memory`
abbrev pub IsVerdict : Reading → List ℕ → Verdict → Type 0
IsVerdict r text (Accepted items left) =
    (value : r.Value) × (rest : List ℕ) × Accepts r.enc r.Writable r.Allowed text value rest × (items ≡ r.items value)
    × (left ≡ length rest)
IsVerdict r text (Refused error) = Refuses (r.HasFault text) (Unit {0}) error

-- a right verdict is given, or an allocation failed, which none does where the reading is memory-free
abbrev pub IsJudged : {E : Type 0} → Reading → List ℕ → Result Verdict E → Type 0
IsJudged r text (Ok verdict) = IsVerdict r text verdict
IsJudged r text (Err e) = ¬ r.MemoryFree text

-- a byte
abbrev pub a_byte : Reading
a_byte = record {
  Value = ℕ;
  enc = byte;
  Writable = IsByte;
  Allowed = λ _. Unit {0};
  HasFault = byte_fault;
  MemoryFree = λ _. Unit {0};
  items = λ _. 1;
}

-- a number in four bytes, the highest first
abbrev pub a_word : Reading
a_word = record {
  Value = ℕ;
  enc = word_bytes;
  Writable = IsWord;
  Allowed = λ _. Unit {0};
  HasFault = word_fault;
  MemoryFree = λ _. Unit {0};
  items = λ _. 1;
}

-- a number below 2^32 as a varint
abbrev pub a_varint : Reading
a_varint =
    record {
      Value = ℕ;
      enc = varint;
      Writable = IsWord;
      Allowed = λ _. Unit {0};
      HasFault = varint_fault;
      MemoryFree = λ _. Unit {0};
      items = λ _. 1;
    }

-- such a number in a range
abbrev pub a_number : Bounds ℕ → Reading
a_number range =
    record {
      Value = ℕ;
      enc = varint;
      Writable = IsWord;
      Allowed = Within range;
      HasFault = NumberFault range;
      MemoryFree = λ _. Unit {0};
      items = λ _. 1;
    }

-- a number in eight bytes, the highest first
abbrev pub a_u64 : Reading
a_u64 = record {
  Value = ℕ;
  enc = u64_bytes;
  Writable = IsU64;
  Allowed = λ _. Unit {0};
  HasFault = u64_fault;
  MemoryFree = λ _. Unit {0};
  items = λ _. 1;
}

-- bytes of one length, as they are
abbrev pub bytes_of_size : ℕ → Reading
bytes_of_size size = record {
  Value = List ℕ;
  enc = own_bytes;
  Writable = IsOfSize size;
  Allowed = λ _. Unit {0};
  HasFault = size_fault size;
  MemoryFree = λ _. Unit {0};
  items = λ _. 1;
}

-- a member: a key of 32 bytes
abbrev pub a_member : Reading
a_member = bytes_of_size 32

-- a list
abbrev pub list_of : Bounds ℕ → Reading → Reading
list_of range item = record {
  Value = List item.Value;
  enc = list_enc item.enc;
  Writable = IsWritableList item.Writable;
  Allowed = IsAllowedList range item.Allowed;
  HasFault = ListFault item.enc item.Writable item.Allowed item.HasFault range;
  MemoryFree = IsListMemoryFree item.HasFault item.MemoryFree range;
  items = length;
}

-- a set, which is a list in strictly increasing order
abbrev pub set_of : Bounds ℕ → (item : Reading) → (item.Value → item.Value → Ordering) → Reading
set_of range item cmp = record {
  Value = List item.Value;
  enc = list_enc item.enc;
  Writable = IsWritableSet item.Writable cmp;
  Allowed = IsAllowedList range item.Allowed;
  HasFault = SetFault item.enc item.Writable cmp item.Allowed item.HasFault range;
  MemoryFree = IsListMemoryFree item.HasFault item.MemoryFree range;
  items = length;
}

-- a list that has an item
abbrev pub non_empty_of : Bounds ℕ → Reading → Reading
non_empty_of range item = record {
  Value = List item.Value;
  enc = list_enc item.enc;
  Writable = IsWritableNonEmpty item.Writable;
  Allowed = IsAllowedList range item.Allowed;
  HasFault = NonEmptyFault item.enc item.Writable item.Allowed item.HasFault range;
  MemoryFree = IsListMemoryFree item.HasFault item.MemoryFree range;
  items = length;
}

-- a map, which is the list of its pairs in the order of the keys
abbrev pub map_of : Bounds ℕ → (key : Reading) → (key.Value → key.Value → Ordering) → Reading → Reading
map_of range key cmp value = record {
  Value = List (key.Value × value.Value);
  enc = map_enc key.enc value.enc;
  Writable = IsWritableMap key.Writable cmp value.Writable;
  Allowed = IsAllowedMap range key.Allowed value.Allowed;
  HasFault =
      MapFault key.enc key.Writable cmp key.Allowed key.HasFault value.enc value.Writable value.Allowed value.HasFault
      range;
  MemoryFree = IsListMemoryFree key.HasFault key.MemoryFree range;
  items = length;
}

-- a map of which no two values are equal
abbrev pub bimap_of : Bounds ℕ → (key : Reading) → (key.Value → key.Value → Ordering) → (value : Reading)
    → (value.Value → value.Value → Bool) → Reading
bimap_of range key cmp value eq = record {
  Value = List (key.Value × value.Value);
  enc = map_enc key.enc value.enc;
  Writable = IsWritableBiMap key.Writable cmp value.Writable eq;
  Allowed = IsAllowedMap range key.Allowed value.Allowed;
  HasFault =
      BiMapFault key.enc key.Writable cmp key.Allowed key.HasFault value.enc value.Writable value.Allowed value.HasFault
      eq range;
  MemoryFree = IsListMemoryFree key.HasFault key.MemoryFree range;
  items = length;
}

-- a certificate, which is its value and its signers
abbrev pub a_certificate : Bounds ℕ → Bounds ℕ → Reading
a_certificate value signers = record {
  Value = List ℕ × List ℕ;
  enc = certificate_enc;
  Writable = IsWritableCertificate;
  Allowed = IsAllowedCertificate value signers;
  HasFault = CertificateFault value signers;
  MemoryFree = IsCertificateMemoryFree value signers;
  items = λ parts. length parts.1;
}

-- what an input is read as, by the type's name and the ranges of its lengths: numbers are ordered as such, and lists by
-- the first item in which they differ, and so are members and other bytes of one length
abbrev pub reading_of : Form → Limits → Reading
reading_of U8 l = a_byte
reading_of U32 l = a_word
reading_of U64 l = a_u64
reading_of Varint l = a_varint
reading_of Usize l = a_number l.first
reading_of Participant l = a_varint
reading_of Member l = a_member
reading_of VecU8 l = list_of l.first a_byte
reading_of VecU32 l = list_of l.first a_word
reading_of VecU64 l = list_of l.first a_u64
reading_of VecVecU8 l = list_of l.first (list_of l.second a_byte)
reading_of VecVecVecU8 l = list_of l.first (list_of l.second (list_of l.third a_byte))
reading_of SetU8 l = set_of l.first a_byte nat_cmp
reading_of SetU32 l = set_of l.first a_word nat_cmp
reading_of SetParticipant l = set_of l.first a_varint nat_cmp
reading_of SetMember l = set_of l.first a_member (slice_cmp nat_cmp)
reading_of SetBytes20 l = set_of l.first (bytes_of_size 20) (slice_cmp nat_cmp)
reading_of SetBytes33 l = set_of l.first (bytes_of_size 33) (slice_cmp nat_cmp)
reading_of SetBytes48 l = set_of l.first (bytes_of_size 48) (slice_cmp nat_cmp)
reading_of SetBytes96 l = set_of l.first (bytes_of_size 96) (slice_cmp nat_cmp)
reading_of SetSetU8 l = set_of l.first (set_of l.second a_byte nat_cmp) (slice_cmp nat_cmp)
reading_of SetNonEmptyU8 l = set_of l.first (non_empty_of l.second a_byte) (slice_cmp nat_cmp)
reading_of MapU8U8 l = map_of l.first a_byte nat_cmp a_byte
reading_of MapU8SetU8 l = map_of l.first a_byte nat_cmp (set_of l.second a_byte nat_cmp)
reading_of MapMemberU8 l = map_of l.first a_member (slice_cmp nat_cmp) a_byte
reading_of MapMemberU64 l = map_of l.first a_member (slice_cmp nat_cmp) a_u64
reading_of VecMapU8U8 l = list_of l.first (map_of l.second a_byte nat_cmp a_byte)
reading_of BiMapU8U8 l = bimap_of l.first a_byte nat_cmp a_byte nat_eq
reading_of BiMapMemberMember l = bimap_of l.first a_member (slice_cmp nat_cmp) a_member (pointwise nat_eq)
reading_of NonEmptyU8 l = non_empty_of l.first a_byte
reading_of NonEmptyNonEmptyU8 l = non_empty_of l.first (non_empty_of l.second a_byte)
reading_of Certificate l = a_certificate l.first l.second
