-- Votes and their certificates keep the laws of equality and of the codec.
use Rattle.std.specs.Prelude.{◌≡◌, ℕ, List, ◌++◌, nat_eq, true, Bool}
use Rattle.std.proofs.Common.{◌∙◌, ap, subst, sym}
use Rattle.std.proofs.lemmas.List.{append_cancel_left}
use Rattle.std.specs.Cmp.{IsEquivalence, IsPartialEquivalence}
use Rattle.std.specs.Cmp.{and_equiv, nat_eq_equiv, on_equiv, partial_equiv_from_equiv, unsigned_ties}
use Rattle.std.specs.Cmp.Lexicographic.{lists_equiv, pointwise}
use Rattle.std.specs.Ordering.{nat_cmp}
use Rattle.std.proofs.lemmas.Cmp.{nat_cmp_total}
use Rattle.commonware_base.specs.Bytes.{byte, byte_fault}
use Rattle.commonware_base.specs.laws.ByteLaws.{byte_canonical, byte_laws, byte_prefix_free}
use Rattle.commonware_base.specs.Fault.{Fault}
use Rattle.commonware_base.specs.laws.ListLaws.{list_bytes, list_canonical, list_laws, list_prefix_free}
use Rattle.commonware_base.specs.Lists.{list_enc}
use Rattle.commonware_base.specs.laws.VecLaws.{vec_of}
use Rattle.commonware_base.specs.laws.NumberLaws.{number_canonical, number_prefix_free, varint_laws}
use Rattle.commonware_base.specs.Range.{Bounds}
use Rattle.commonware_base.specs.Sequence.{sequence_enc, IsWritableSequence}
use Rattle.commonware_base.specs.laws.SequenceLaws.{sequence_bytes, sequence_canonical}
use Rattle.commonware_base.specs.laws.SequenceLaws.{sequence_laws, sequence_prefix_free}
use Rattle.commonware_base.specs.Text.{Accepts, AreBytes, CanonicalLaws, IsByte, IsPrefixFree, ReadLaws}
use Rattle.commonware_base.specs.Varint.{varint, varint_fault}
use Rattle.commonware_base.specs.laws.VarintLaws.{varint_bytes}
use Rattle.commonware_base.specs.Words.{IsWord}
use Rattle.commonware_ordered.specs.laws.SetLaws.{set_canonical, set_laws, set_prefix_free}
use Rattle.commonware_ordered.specs.Sets.{IsWritableSet}
use Rattle.committee_votes.specs.Encodings.{Fields, fields, parts, are_equal_fields, are_equal_pairs, are_equal_parts}
use Rattle.committee_votes.specs.Encodings.{bytes_enc, vote_enc, vote_certificate_enc}
use Rattle.committee_votes.specs.Encodings.{AreWritableBytes, IsWritableVote, IsWritableVoteCertificate}
use Rattle.committee_votes.specs.Encodings.{HasAllowedLength, IsAllowedSlot, IsAllowedVote, IsAllowedVoteCertificate}
use Rattle.committee_certificates.specs.Certificates.{AreAllowedSigners, SignersFault}
use Rattle.committee_votes.specs.Encodings.{BytesFault, SlotFault, VoteFault, VoteCertificateFault}
use Rattle.committee_votes.specs.Encodings.{IsSequenceMemoryFree, empty_first, refused_first}
use Rattle.committee_votes.specs.declared.certificates.VoteCertificate.{VoteCertificate}
use Rattle.committee_votes.specs.declared.votes.Vote.{Vote}

-- equality of both halves is an equivalence
pairs_equiv : {X Y : Type 0} {first : X → X → Bool} {second : Y → Y → Bool} → IsEquivalence first
    → IsEquivalence second → IsEquivalence (are_equal_pairs first second)
pairs_equiv a b = and_equiv (on_equiv (λ p. p.0) a) (on_equiv (λ p. p.1) b)

-- and so is that of fields
fields_equiv : IsEquivalence are_equal_fields
fields_equiv =
    pairs_equiv (lists_equiv nat_eq_equiv) (pairs_equiv (lists_equiv nat_eq_equiv) (lists_equiv nat_eq_equiv))

-- and that of certificates
parts_equivalence : IsEquivalence are_equal_parts
parts_equivalence = pairs_equiv fields_equiv (lists_equiv nat_eq_equiv)

-- equality of votes is an equivalence
pub vote_equiv : {A : Type 0} → IsEquivalence {K = Vote A} (λ x y. are_equal_fields (fields x) (fields y))
vote_equiv = on_equiv fields fields_equiv

-- it is symmetric and transitive
pub vote_per : {A : Type 0} → IsPartialEquivalence {K = Vote A} (λ x y. are_equal_fields (fields x) (fields y))
vote_per = partial_equiv_from_equiv vote_equiv

-- votes of the same fields are equal
pub equal_from_same_fields : {A : Type 0} (x y : Vote A) → fields y ≡ fields x
    → are_equal_fields (fields x) (fields y) ≡ true
equal_from_same_fields x y same =
    subst (λ p. are_equal_fields (fields x) p ≡ true) (sym same) (fields_equiv.refl (fields x))

-- equality of certificates is an equivalence
pub certificate_equiv : {A : Type 0}
    → IsEquivalence {K = VoteCertificate A} (λ x y. are_equal_parts (parts x) (parts y))
certificate_equiv = on_equiv parts parts_equivalence

-- it is symmetric and transitive
pub certificate_per : {A : Type 0}
    → IsPartialEquivalence {K = VoteCertificate A} (λ x y. are_equal_parts (parts x) (parts y))
certificate_per = partial_equiv_from_equiv certificate_equiv

-- certificates of the same parts are equal
pub equal_from_same_parts : {A : Type 0} (x y : VoteCertificate A) → parts y ≡ parts x
    → are_equal_parts (parts x) (parts y) ≡ true
equal_from_same_parts x y same =
    subst (λ p. are_equal_parts (parts x) p ≡ true) (sym same) (parts_equivalence.refl (parts x))

-- a vote of three writable lists of bytes
make_vote : {A : Type 0} → A → (domain slot decision : List ℕ) → AreWritableBytes domain → AreWritableBytes slot
    → AreWritableBytes decision → (v : Vote A) × ((domain, (slot, decision)) ≡ fields v)
make_vote alloc domain slot decision a b c =
    let d = vec_of alloc domain a.short in
    let s = vec_of alloc slot b.short in
    let e = vec_of alloc decision c.short in
    (record { domain = d.0; slot = s.0; decision = e.0 }, λ i. (d.1 i, (s.1 i, e.1 i)))

-- a vote of writable fields
pub vote_of : {A : Type 0} → A → (p : Fields) → IsWritableVote p → (v : Vote A) × (p ≡ fields v)
vote_of alloc p w = make_vote alloc p.0 p.1.0 p.1.1 w.0 w.1.0 w.1.1

-- a certificate of writable parts
pub certificate_of : {A : Type 0} → A → (p : Fields × List ℕ) → IsWritableVoteCertificate p
    → (c : VoteCertificate A) × (p ≡ parts c)
certificate_of alloc p w =
    let v = vote_of alloc p.0 w.0 in
    (record { vote = v.0; signers = p.1 }, λ i. (v.1 i, p.1))

-- no encoding of a list of bytes is a proper prefix of another's
pub bytes_prefix_free : IsPrefixFree bytes_enc AreWritableBytes
bytes_prefix_free = list_prefix_free byte IsByte byte_prefix_free

-- nor one of a slot and a decision
slot_prefix_free :
    IsPrefixFree (sequence_enc bytes_enc bytes_enc) (IsWritableSequence AreWritableBytes AreWritableBytes)
slot_prefix_free =
    sequence_prefix_free bytes_enc AreWritableBytes bytes_prefix_free bytes_enc AreWritableBytes bytes_prefix_free

-- nor one of a vote
pub vote_prefix_free : IsPrefixFree vote_enc IsWritableVote
vote_prefix_free =
    sequence_prefix_free bytes_enc AreWritableBytes bytes_prefix_free (sequence_enc bytes_enc bytes_enc)
    (IsWritableSequence AreWritableBytes AreWritableBytes) slot_prefix_free

-- nor one of signers
signers_prefix_free : IsPrefixFree (list_enc varint) (IsWritableSet IsWord nat_cmp)
signers_prefix_free = set_prefix_free varint IsWord nat_cmp number_prefix_free

-- nor one of a certificate of a vote
pub vote_certificate_prefix_free : IsPrefixFree vote_certificate_enc IsWritableVoteCertificate
vote_certificate_prefix_free =
    sequence_prefix_free vote_enc IsWritableVote vote_prefix_free (list_enc varint) (IsWritableSet IsWord nat_cmp)
    signers_prefix_free

-- a written list of bytes is bytes
are_bytes : (p : List ℕ) → AreWritableBytes p → AreBytes (bytes_enc p)
are_bytes = list_bytes byte IsByte (λ v h. (h, tt))

-- a written vote is bytes
pub vote_bytes : (p : Fields) → IsWritableVote p → AreBytes (vote_enc p)
vote_bytes =
    sequence_bytes bytes_enc AreWritableBytes bytes_prefix_free (sequence_enc bytes_enc bytes_enc)
    (IsWritableSequence AreWritableBytes AreWritableBytes) are_bytes
    (sequence_bytes bytes_enc AreWritableBytes bytes_prefix_free bytes_enc AreWritableBytes are_bytes are_bytes)

-- a written certificate is bytes
pub vote_certificate_bytes : (p : Fields × List ℕ) → IsWritableVoteCertificate p → AreBytes (vote_certificate_enc p)
vote_certificate_bytes =
    sequence_bytes vote_enc IsWritableVote vote_prefix_free (list_enc varint) (IsWritableSet IsWord nat_cmp) vote_bytes
    (λ s h. list_bytes varint IsWord varint_bytes s h.list)

-- lists of bytes are equal exactly where their encodings are
bytes_canonical : CanonicalLaws bytes_enc AreWritableBytes (pointwise nat_eq)
bytes_canonical = list_canonical byte IsByte byte_prefix_free nat_eq byte_canonical

-- votes are
pub vote_canonical : CanonicalLaws vote_enc IsWritableVote are_equal_fields
vote_canonical =
    sequence_canonical bytes_enc AreWritableBytes bytes_prefix_free (sequence_enc bytes_enc bytes_enc)
    (IsWritableSequence AreWritableBytes AreWritableBytes) slot_prefix_free (pointwise nat_eq)
    (are_equal_pairs (pointwise nat_eq) (pointwise nat_eq)) bytes_canonical
    (sequence_canonical bytes_enc AreWritableBytes bytes_prefix_free bytes_enc AreWritableBytes bytes_prefix_free
    (pointwise nat_eq) (pointwise nat_eq) bytes_canonical bytes_canonical)

-- and certificates of votes
pub vote_certificate_canonical : CanonicalLaws vote_certificate_enc IsWritableVoteCertificate are_equal_parts
vote_certificate_canonical =
    sequence_canonical vote_enc IsWritableVote vote_prefix_free (list_enc varint) (IsWritableSet IsWord nat_cmp)
    signers_prefix_free are_equal_fields (pointwise nat_eq) vote_canonical
    (set_canonical varint IsWord nat_cmp number_prefix_free nat_eq nat_cmp_total unsigned_ties number_canonical)

-- Where two values are decoded one after the other.
module _ {X : Type 0} (enc : X → List ℕ) (Writable Allowed : X → Type 0) (free : IsPrefixFree enc Writable)
    (first_fault : List ℕ → Fault → Type 0) (laws : ReadLaws enc Writable Allowed first_fault)
    (FirstFree : List ℕ → Type 0) (none : X) (writable : Writable none)
    (none_free : (rest : List ℕ) → FirstFree (enc none ++ rest)) (SecondFree : List ℕ → Type 0) where
  -- where the first one's decoding isn't memory-free, that of both isn't
  pub first_needs_memory : (s : List ℕ) → ¬ FirstFree s
      → ¬ IsSequenceMemoryFree first_fault FirstFree (enc none) SecondFree s
  first_needs_memory s needs (refused_first f w h) = needs h
  first_needs_memory s needs (empty_first rest e h) = needs (subst FirstFree (sym e) (none_free rest))

  -- nor where the first one is decoded, and the second's decoding isn't memory-free
  pub second_needs_memory : (s : List ℕ) (x : X) (rest : List ℕ) → Accepts enc Writable Allowed s x rest
      → ¬ SecondFree rest → ¬ IsSequenceMemoryFree first_fault FirstFree (enc none) SecondFree s
  second_needs_memory s x rest a needs (refused_first f w h) = laws.accepted_no_fault s x rest f a w
  second_needs_memory s x rest a needs (empty_first t e h) =
      let same : enc x ++ rest ≡ enc none ++ t = sym a.begins ∙ e in
      let first : enc x ≡ enc none = free x none rest t a.writable writable same in
      let after : rest ≡ t = append_cancel_left (enc none) rest t (ap (λ u. u ++ rest) (sym first) ∙ same) in
      needs (subst SecondFree (sym after) h)

-- the laws of the encodings of lists of bytes
pub bytes_laws : (range : Bounds ℕ) → ReadLaws bytes_enc AreWritableBytes (HasAllowedLength range) (BytesFault range)
bytes_laws range = list_laws byte IsByte byte_prefix_free (λ _. Unit {0}) byte_fault range byte_laws

-- the laws of the encodings of signers
signers_laws : (range : Bounds ℕ)
    → ReadLaws (list_enc varint) (IsWritableSet IsWord nat_cmp) (AreAllowedSigners range) (SignersFault range)
signers_laws range =
    set_laws varint IsWord nat_cmp number_prefix_free nat_eq nat_cmp_total unsigned_ties number_canonical
    (λ _. Unit {0}) varint_fault range varint_laws

module _ (domain slot decision : Bounds ℕ) where
  -- the laws of the encodings of a slot and a decision
  slot_laws :
      ReadLaws (sequence_enc bytes_enc bytes_enc) (IsWritableSequence AreWritableBytes AreWritableBytes)
      (IsAllowedSlot slot decision) (SlotFault slot decision)
  slot_laws =
      sequence_laws bytes_enc AreWritableBytes bytes_prefix_free bytes_enc AreWritableBytes bytes_prefix_free
      (HasAllowedLength slot) (BytesFault slot) (bytes_laws slot)
      (λ _. HasAllowedLength decision) (λ _. BytesFault decision) (λ _. bytes_laws decision)
      (λ x z y _ _ _ h. h) (λ x z s f _ _ _ w. w)

  -- the laws of the encodings of votes
  pub vote_laws : ReadLaws vote_enc IsWritableVote (IsAllowedVote domain slot decision) (VoteFault domain slot decision)
  vote_laws =
      sequence_laws bytes_enc AreWritableBytes bytes_prefix_free (sequence_enc bytes_enc bytes_enc)
      (IsWritableSequence AreWritableBytes AreWritableBytes) slot_prefix_free
      (HasAllowedLength domain) (BytesFault domain) (bytes_laws domain)
      (λ _. IsAllowedSlot slot decision) (λ _. SlotFault slot decision) (λ _. slot_laws)
      (λ x z y _ _ _ h. h) (λ x z s f _ _ _ w. w)

  -- the laws of the encodings of certificates of votes
  pub vote_certificate_laws : (signers : Bounds ℕ)
      → ReadLaws vote_certificate_enc IsWritableVoteCertificate (IsAllowedVoteCertificate domain slot decision signers)
      (VoteCertificateFault domain slot decision signers)
  vote_certificate_laws signers =
      sequence_laws vote_enc IsWritableVote vote_prefix_free
      (list_enc varint) (IsWritableSet IsWord nat_cmp) signers_prefix_free
      (IsAllowedVote domain slot decision) (VoteFault domain slot decision) vote_laws
      (λ _. AreAllowedSigners signers) (λ _. SignersFault signers) (λ _. signers_laws signers)
      (λ x z y _ _ _ h. h) (λ x z s f _ _ _ w. w)
