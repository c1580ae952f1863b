-- What is refused where one value is read after another.
use Rattle.std.proofs.Common.{ℕ, List, [], ◌++◌, arith}
use Rattle.std.proofs.lemmas.List.{append_assoc}
use Rattle.commonware_base.specs.declared.codec.error.Error.{Error}
use Rattle.commonware_base.specs.Fault.{Fault}
use Rattle.commonware_base.specs.Lists.{empty, IsListMemoryFree}
use Rattle.commonware_base.specs.Range.{Bounds}
use Rattle.commonware_base.specs.Refusal.{Refuses}
use Rattle.commonware_base.specs.laws.RefusalLaws.{refuses_from}
use Rattle.commonware_base.specs.Sequence.{bad_first, bad_second, SequenceFault}
use Rattle.commonware_base.specs.Text.{Accepts, IsPrefixFree, ReadLaws}
use Rattle.commonware_base.specs.Varint.{varint, varint_fault}
use Rattle.committee_votes.specs.Encodings.{AreBytesMemoryFree, AreWritableBytes, BytesFault, bytes_enc, Fields}
use Rattle.committee_votes.specs.Encodings.{HasAllowedLength, IsAllowedVote, IsSequenceMemoryFree, IsSlotMemoryFree}
use Rattle.committee_certificates.specs.Certificates.{SignersFault}
use Rattle.committee_votes.specs.Encodings.{IsVoteCertificateMemoryFree, IsVoteMemoryFree, IsWritableVote}
use Rattle.committee_votes.specs.Encodings.{SlotFault, VoteCertificateFault, VoteFault, empty_first, vote_enc}
use Rattle.committee_votes.specs.laws.EncodingLaws.{bytes_laws, bytes_prefix_free, first_needs_memory}
use Rattle.committee_votes.specs.laws.EncodingLaws.{second_needs_memory, vote_laws, vote_prefix_free}

module _ {X : Type 0} (enc : X → List ℕ) (Writable Allowed : X → Type 0) (free : IsPrefixFree enc Writable)
    (first_fault : List ℕ → Fault → Type 0) (laws : ReadLaws enc Writable Allowed first_fault)
    (FirstFree : List ℕ → Type 0) (none : X) (writable : Writable none)
    (none_free : (rest : List ℕ) → FirstFree (enc none ++ rest)) (SecondFree : List ℕ → Type 0)
    (second_fault : X → List ℕ → Fault → Type 0) where
  -- what refuses the first refuses both
  first_refuses : (s : List ℕ) (e : Error) → Refuses (first_fault s) (FirstFree s) e
      → Refuses (SequenceFault enc Writable Allowed first_fault second_fault s)
      (IsSequenceMemoryFree first_fault FirstFree (enc none) SecondFree s) e
  first_refuses s e r =
      refuses_from (first_fault s) (SequenceFault enc Writable Allowed first_fault second_fault s) (FirstFree s)
      (IsSequenceMemoryFree first_fault FirstFree (enc none) SecondFree s) (λ f w. bad_first w)
      (first_needs_memory enc Writable Allowed free first_fault laws FirstFree none writable none_free SecondFree s) e r

  -- and so does what refuses the second, after a first one that is accepted
  second_refuses : (s : List ℕ) (x : X) (rest : List ℕ) → Accepts enc Writable Allowed s x rest → (e : Error)
      → Refuses (second_fault x rest) (SecondFree rest) e
      → Refuses (SequenceFault enc Writable Allowed first_fault second_fault s)
      (IsSequenceMemoryFree first_fault FirstFree (enc none) SecondFree s) e
  second_refuses s x rest a e r =
      refuses_from (second_fault x rest) (SequenceFault enc Writable Allowed first_fault second_fault s) (SecondFree rest)
      (IsSequenceMemoryFree first_fault FirstFree (enc none) SecondFree s) (λ f w. bad_second x rest a w)
      (second_needs_memory enc Writable Allowed free first_fault laws FirstFree none writable none_free SecondFree
      s x rest a) e r

-- no bytes can be written
none_writable : AreWritableBytes []
none_writable = record { short = omega arith; each = tt }

-- and are decoded without an allocation
none_free : (range : Bounds ℕ) (rest : List ℕ) → AreBytesMemoryFree range (bytes_enc [] ++ rest)
none_free range rest = empty rest (append_assoc (varint 0) [] rest)

module _ (domain slot decision : Bounds ℕ) where
  -- so is a vote of three empty fields
  vote_none_free : (rest : List ℕ) → IsVoteMemoryFree domain slot decision (vote_enc ([], ([], [])) ++ rest)
  vote_none_free rest =
      empty_first ((bytes_enc [] ++ bytes_enc []) ++ rest)
      (append_assoc (bytes_enc []) (bytes_enc [] ++ bytes_enc []) rest)
      (empty_first (bytes_enc [] ++ rest) (append_assoc (bytes_enc []) (bytes_enc []) rest) (none_free decision rest))

  -- an error of the domain is one of the vote
  pub domain_refuses : (s : List ℕ) (e : Error) → Refuses (BytesFault domain s) (AreBytesMemoryFree domain s) e
      → Refuses (VoteFault domain slot decision s) (IsVoteMemoryFree domain slot decision s) e
  domain_refuses =
      first_refuses bytes_enc AreWritableBytes (HasAllowedLength domain) bytes_prefix_free (BytesFault domain)
      (bytes_laws domain) (AreBytesMemoryFree domain) [] none_writable (none_free domain) (IsSlotMemoryFree slot decision)
      (λ _. SlotFault slot decision)

  -- an error after the domain is one of the vote
  after_domain : (s d rest : List ℕ) → Accepts bytes_enc AreWritableBytes (HasAllowedLength domain) s d rest
      → (e : Error) → Refuses (SlotFault slot decision rest) (IsSlotMemoryFree slot decision rest) e
      → Refuses (VoteFault domain slot decision s) (IsVoteMemoryFree domain slot decision s) e
  after_domain =
      second_refuses bytes_enc AreWritableBytes (HasAllowedLength domain) bytes_prefix_free (BytesFault domain)
      (bytes_laws domain) (AreBytesMemoryFree domain) [] none_writable (none_free domain) (IsSlotMemoryFree slot decision)
      (λ _. SlotFault slot decision)

  -- that of the slot
  pub slot_refuses : (s d rest : List ℕ) → Accepts bytes_enc AreWritableBytes (HasAllowedLength domain) s d rest
      → (e : Error) → Refuses (BytesFault slot rest) (AreBytesMemoryFree slot rest) e
      → Refuses (VoteFault domain slot decision s) (IsVoteMemoryFree domain slot decision s) e
  slot_refuses s d rest a e r =
      after_domain s d rest a e
      (first_refuses bytes_enc AreWritableBytes (HasAllowedLength slot) bytes_prefix_free (BytesFault slot)
      (bytes_laws slot) (AreBytesMemoryFree slot) [] none_writable (none_free slot) (AreBytesMemoryFree decision)
      (λ _. BytesFault decision) rest e r)

  -- and that of the decision
  pub decision_refuses : (s d rest t last : List ℕ)
      → Accepts bytes_enc AreWritableBytes (HasAllowedLength domain) s d rest
      → Accepts bytes_enc AreWritableBytes (HasAllowedLength slot) rest t last
      → (e : Error) → Refuses (BytesFault decision last) (AreBytesMemoryFree decision last) e
      → Refuses (VoteFault domain slot decision s) (IsVoteMemoryFree domain slot decision s) e
  decision_refuses s d rest t last a b e r =
      after_domain s d rest a e
      (second_refuses bytes_enc AreWritableBytes (HasAllowedLength slot) bytes_prefix_free (BytesFault slot)
      (bytes_laws slot) (AreBytesMemoryFree slot) [] none_writable (none_free slot) (AreBytesMemoryFree decision)
      (λ _. BytesFault decision) rest t last b e r)

  -- an error of the vote is one of its certificate
  pub vote_refuses : (signers : Bounds ℕ) (s : List ℕ) (e : Error)
      → Refuses (VoteFault domain slot decision s) (IsVoteMemoryFree domain slot decision s) e
      → Refuses (VoteCertificateFault domain slot decision signers s)
      (IsVoteCertificateMemoryFree domain slot decision signers s) e
  vote_refuses signers =
      first_refuses vote_enc IsWritableVote (IsAllowedVote domain slot decision) vote_prefix_free
      (VoteFault domain slot decision) (vote_laws domain slot decision) (IsVoteMemoryFree domain slot decision)
      ([], ([], [])) (none_writable, (none_writable, none_writable)) vote_none_free
      (IsListMemoryFree varint_fault (λ _. Unit {0}) signers) (λ _. SignersFault signers)

  -- and so is that of the signers
  pub signers_refuse : (signers : Bounds ℕ) (s : List ℕ) (v : Fields) (rest : List ℕ)
      → Accepts vote_enc IsWritableVote (IsAllowedVote domain slot decision) s v rest
      → (e : Error) → Refuses (SignersFault signers rest) (IsListMemoryFree varint_fault (λ _. Unit {0}) signers rest) e
      → Refuses (VoteCertificateFault domain slot decision signers s)
      (IsVoteCertificateMemoryFree domain slot decision signers s) e
  signers_refuse signers =
      second_refuses vote_enc IsWritableVote (IsAllowedVote domain slot decision) vote_prefix_free
      (VoteFault domain slot decision) (vote_laws domain slot decision) (IsVoteMemoryFree domain slot decision)
      ([], ([], [])) (none_writable, (none_writable, none_writable)) vote_none_free
      (IsListMemoryFree varint_fault (λ _. Unit {0}) signers) (λ _. SignersFault signers)
