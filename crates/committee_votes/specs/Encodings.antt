-- The encoding of a vote: its domain, its slot and its decision, each as a list of bytes. That of a certificate of a
-- vote: the vote, and then its signers as a set of participants.
use Rattle.std.specs.Prelude.{◌≡◌, ℕ, List, [], ◌++◌, Bool, ◌&&◌, nat_eq}
use Rattle.std.specs.Cmp.Lexicographic.{pointwise}
use Rattle.std.specs.Ordering.{nat_cmp}
use Rattle.commonware_base.specs.Bytes.{byte, byte_fault}
use Rattle.commonware_base.specs.Fault.{Fault}
use Rattle.commonware_base.specs.Lists.{list_enc, IsWritableList, IsAllowedList, IsListMemoryFree, ListFault}
use Rattle.commonware_base.specs.Range.{Bounds}
use Rattle.commonware_base.specs.Sequence.{sequence_enc, IsWritableSequence, IsAllowedSequence, SequenceFault}
use Rattle.commonware_base.specs.Text.{IsByte}
use Rattle.commonware_base.specs.Varint.{varint, varint_fault}
use Rattle.commonware_base.specs.Words.{IsWord}
use Rattle.commonware_ordered.specs.Sets.{IsWritableSet}
use Rattle.committee_certificates.specs.Certificates.{AreAllowedSigners, SignersFault}
use Rattle.committee_votes.specs.declared.certificates.VoteCertificate.{VoteCertificate}
use Rattle.committee_votes.specs.declared.votes.Vote.{Vote}
use Rattle.committee_votes.specs.declared.votes.VoteAt.{VoteAt}

-- three lists of bytes, in the order of their encoding
abbrev pub Fields : Type 0
Fields = List ℕ × (List ℕ × List ℕ)

-- the three lists of bytes of a vote
abbrev pub fields : {A : Type 0} → Vote A → Fields
fields vote = (vote.domain.items, (vote.slot.items, vote.decision.items))

-- and those of a borrowed one
abbrev pub fields_at : VoteAt → Fields
fields_at vote = (vote.domain.now, (vote.slot.now, vote.decision.now))

-- the fields of the vote, and the signers
abbrev pub parts : {A : Type 0} → VoteCertificate A → Fields × List ℕ
parts certificate = (fields certificate.vote, certificate.signers)

-- both halves of two pairs are equal
abbrev pub are_equal_pairs : {X Y : Type 0} → (X → X → Bool) → (Y → Y → Bool) → X × Y → X × Y → Bool
are_equal_pairs first second p q = first p.0 q.0 && second p.1 q.1

-- all three are equal, byte by byte
abbrev pub are_equal_fields : Fields → Fields → Bool
are_equal_fields =
    are_equal_pairs (pointwise nat_eq) (are_equal_pairs (pointwise nat_eq) (pointwise nat_eq))

-- the votes are equal, and so are the signers
abbrev pub are_equal_parts : Fields × List ℕ → Fields × List ℕ → Bool
are_equal_parts = are_equal_pairs are_equal_fields (pointwise nat_eq)

-- the encoding of a list of bytes: its length as a varint, and the bytes
abbrev pub bytes_enc : List ℕ → List ℕ
bytes_enc = list_enc byte

-- the encoding of a vote: its domain, its slot, its decision
abbrev pub vote_enc : Fields → List ℕ
vote_enc = sequence_enc bytes_enc (sequence_enc bytes_enc bytes_enc)

-- the encoding of a certificate of a vote: the vote, and the signers as a set
abbrev pub vote_certificate_enc : Fields × List ℕ → List ℕ
vote_certificate_enc = sequence_enc vote_enc (list_enc varint)

-- a list of bytes that can be written
abbrev pub AreWritableBytes : List ℕ → Type 0
AreWritableBytes = IsWritableList IsByte

-- each field can be written
abbrev pub IsWritableVote : Fields → Type 0
IsWritableVote = IsWritableSequence AreWritableBytes (IsWritableSequence AreWritableBytes AreWritableBytes)

-- the vote can be written, and the signers as a set of participants
abbrev pub IsWritableVoteCertificate : Fields × List ℕ → Type 0
IsWritableVoteCertificate = IsWritableSequence IsWritableVote (IsWritableSet IsWord nat_cmp)

-- the length is in the range
abbrev pub HasAllowedLength : Bounds ℕ → List ℕ → Type 0
HasAllowedLength range = IsAllowedList range (λ _. Unit {0})

-- so are those of a slot and a decision
abbrev pub IsAllowedSlot : Bounds ℕ → Bounds ℕ → List ℕ × List ℕ → Type 0
IsAllowedSlot slot decision = IsAllowedSequence (HasAllowedLength slot) (λ _. HasAllowedLength decision)

-- the length of each field is in its range
abbrev pub IsAllowedVote : Bounds ℕ → Bounds ℕ → Bounds ℕ → Fields → Type 0
IsAllowedVote domain slot decision = IsAllowedSequence (HasAllowedLength domain) (λ _. IsAllowedSlot slot decision)

-- and so is the number of signers
abbrev pub IsAllowedVoteCertificate : Bounds ℕ → Bounds ℕ → Bounds ℕ → Bounds ℕ → Fields × List ℕ → Type 0
IsAllowedVoteCertificate domain slot decision signers =
    IsAllowedSequence (IsAllowedVote domain slot decision) (λ _. AreAllowedSigners signers)

-- the fault of an input that should begin with a list of bytes
abbrev pub BytesFault : Bounds ℕ → List ℕ → Fault → Type 0
BytesFault range = ListFault byte IsByte (λ _. Unit {0}) byte_fault range

-- the fault of an input that should begin with a slot and a decision
abbrev pub SlotFault : Bounds ℕ → Bounds ℕ → List ℕ → Fault → Type 0
SlotFault slot decision =
    SequenceFault bytes_enc AreWritableBytes (HasAllowedLength slot) (BytesFault slot) (λ _. BytesFault decision)

-- The first fault of an input that should begin with a vote: that of the domain; then that of the slot; then that of
-- the decision.
abbrev pub VoteFault : Bounds ℕ → Bounds ℕ → Bounds ℕ → List ℕ → Fault → Type 0
VoteFault domain slot decision =
    SequenceFault bytes_enc AreWritableBytes (HasAllowedLength domain) (BytesFault domain)
    (λ _. SlotFault slot decision)

-- The first fault of an input that should begin with a certificate of a vote: that of the vote; then, where there is
-- none, that of the signers after it.
abbrev pub VoteCertificateFault : Bounds ℕ → Bounds ℕ → Bounds ℕ → Bounds ℕ → List ℕ → Fault → Type 0
VoteCertificateFault domain slot decision signers =
    SequenceFault vote_enc IsWritableVote (IsAllowedVote domain slot decision) (VoteFault domain slot decision)
    (λ _. SignersFault signers)

-- Two values are decoded or refused without an allocation where the first is refused so, or where the first is the one
-- that is decoded so, whose bytes are these, and the second is decoded or refused so.
pub data IsSequenceMemoryFree (first_fault : List ℕ → Fault → Type 0) (FirstFree : List ℕ → Type 0)
    (bytes : List ℕ) (SecondFree : List ℕ → Type 0) (text : List ℕ) : Type 0 where
  refused_first : (fault : Fault) → first_fault text fault → FirstFree text
      → IsSequenceMemoryFree first_fault FirstFree bytes SecondFree text
  empty_first : (rest : List ℕ) → text ≡ bytes ++ rest → SecondFree rest
      → IsSequenceMemoryFree first_fault FirstFree bytes SecondFree text

-- a list of bytes is decoded or refused without an allocation
abbrev pub AreBytesMemoryFree : Bounds ℕ → List ℕ → Type 0
AreBytesMemoryFree = IsListMemoryFree byte_fault (λ _. Unit {0})

-- a slot and a decision are
abbrev pub IsSlotMemoryFree : Bounds ℕ → Bounds ℕ → List ℕ → Type 0
IsSlotMemoryFree slot decision =
    IsSequenceMemoryFree (BytesFault slot) (AreBytesMemoryFree slot) (bytes_enc []) (AreBytesMemoryFree decision)

-- a vote is: refused in its first field that isn't empty, or of three empty fields
abbrev pub IsVoteMemoryFree : Bounds ℕ → Bounds ℕ → Bounds ℕ → List ℕ → Type 0
IsVoteMemoryFree domain slot decision =
    IsSequenceMemoryFree (BytesFault domain) (AreBytesMemoryFree domain) (bytes_enc []) (IsSlotMemoryFree slot decision)

-- a certificate of a vote is
abbrev pub IsVoteCertificateMemoryFree : Bounds ℕ → Bounds ℕ → Bounds ℕ → Bounds ℕ → List ℕ → Type 0
IsVoteCertificateMemoryFree domain slot decision signers =
    IsSequenceMemoryFree (VoteFault domain slot decision) (IsVoteMemoryFree domain slot decision)
    (vote_enc ([], ([], []))) (IsListMemoryFree varint_fault (λ _. Unit {0}) signers)
