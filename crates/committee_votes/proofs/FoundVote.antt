-- Lists of bytes, found where they are, one after another, and then signers.
use Rattle.std.proofs.Common.{◌≡◌, ℕ, ◌+◌, ◌<◌, ◌≤◌, ◌^◌, List, ◌++◌, length, take, refl, ap, sym, ◌∙◌, arith, subst}
use Rattle.std.proofs.lemmas.List.{length-take-le}
use Rattle.commonware_base.specs.declared.codec.source.Source.{Source}
use Rattle.commonware_base.specs.declared.codec.error.Error.{Error}
use Rattle.commonware_base.specs.Bytes.{byte, byte_fault}
use Rattle.commonware_base.specs.Fault.{EndOfBuffer, InvalidLength}
use Rattle.commonware_base.specs.laws.ByteLaws.{byte_laws}
use Rattle.commonware_base.specs.laws.ItemsLaws.{items_lack}
use Rattle.commonware_base.specs.laws.RefusalLaws.{refuses_from}
use Rattle.commonware_base.specs.laws.SourceLaws.{rest_bytes}
use Rattle.commonware_base.specs.Lists.{list_enc}
use Rattle.commonware_base.specs.Range.{Bounds, Within}
use Rattle.commonware_base.specs.Refusal.{Refuses}
use Rattle.commonware_base.specs.Sequence.{bad_first, bad_second}
use Rattle.commonware_base.specs.Source.{bytes_of, position_of, Consumes, rest_of}
use Rattle.commonware_base.specs.Text.{Accepts, IsByte}
use Rattle.commonware_base.specs.Varint.{varint}
use Rattle.commonware_base.proofs.ByteSteps.{byte_short, bytes_join}
use Rattle.commonware_base.proofs.ReadSteps.{list_faulty, read_outside}
use Rattle.commonware_base.proofs.SourceLemmas.{consumes_both, consumes_front}
use Rattle.commonware_base.specs.Words.{IsWord}
use Rattle.commonware_ordered.specs.Sets.{IsWritableSet}
use Rattle.std.specs.Ordering.{nat_cmp}
use Rattle.committee_certificates.specs.Certificates.{AreAllowedSigners, SignersFault}
use Rattle.committee_certificates.proofs.FoundValue.{value_found}
use Rattle.committee_votes.specs.Encodings.{AreWritableBytes, BytesFault, bytes_enc, Fields, HasAllowedLength}
use Rattle.committee_votes.specs.Encodings.{IsAllowedVote, IsAllowedVoteCertificate, IsWritableVote}
use Rattle.committee_votes.specs.Encodings.{IsWritableVoteCertificate, VoteCertificateFault, VoteFault}
use Rattle.committee_votes.specs.Encodings.{vote_certificate_enc, vote_enc}

-- bytes were found: they are accepted, and their encoding was taken
abbrev pub AreFound : Bounds ℕ → Source → List ℕ → Source → Type 0
AreFound range start found next =
    Accepts bytes_enc AreWritableBytes (HasAllowedLength range) (rest_of start) found (rest_of next)
    × Consumes start next (bytes_enc found)

module _ (range : Bounds ℕ) (count : ℕ) (start now : Source) (short : count < 2 ^ 32)
    (taken : Consumes start now (varint count)) where
  -- a length out of the range
  pub bytes_outside : ¬ Within range count → BytesFault range (rest_of start) (InvalidLength count)
  bytes_outside outside =
      read_outside byte IsByte (λ _. Unit {0}) range count start byte_fault (λ _. Unit {0}) now short outside taken

  module _ (within : Within range count) where
    -- fewer bytes than the length
    pub bytes_lack : length (rest_of now) < count → BytesFault range (rest_of start) EndOfBuffer
    bytes_lack fewer =
        list_faulty byte IsByte (λ _. Unit {0}) range count start now short taken byte_fault (λ _. Unit {0}) within
        EndOfBuffer
        (items_lack byte IsByte byte_fault 1 (λ v w. refl) byte_short byte_laws.accepted_or_faulty count (rest_of now)
        (rest_bytes now) (omega (arith, fewer)))

    module _ (enough : count ≤ length (rest_of now)) (next : Source) (bytes : bytes_of next ≡ bytes_of now)
        (position : position_of next ≡ position_of now + count) where
      -- the bytes that are counted
      pub bytes_found : AreFound range start (take count (rest_of now)) next
      bytes_found =
          let found = take count (rest_of now) in (
            value_found range range count start now short taken within enough next bytes position,
            subst (Consumes start next)
                (ap (λ k. varint k ++ found) (sym (length-take-le count (rest_of now) enough))
                ∙ ap (λ u. varint (length found) ++ u) (sym (bytes_join found)))
                (consumes_both start now next (varint count) found taken
                (consumes_front now next count found bytes position enough refl)),
          )

module _ (domain slot decision : Bounds ℕ) (start : Source) where
  -- what the domain is refused for
  pub found_domain_refused : (e : Error) → Refuses (BytesFault domain (rest_of start)) (Unit {0}) e
      → Refuses (VoteFault domain slot decision (rest_of start)) (Unit {0}) e
  found_domain_refused e w =
      refuses_from (BytesFault domain (rest_of start)) (VoteFault domain slot decision (rest_of start)) (Unit {0})
      (Unit {0}) (λ f v. bad_first v) (λ never. never) e w

  module _ (d : List ℕ) (second : Source) (is_domain : AreFound domain start d second) where
    -- what the slot is refused for
    pub found_slot_refused : (e : Error) → Refuses (BytesFault slot (rest_of second)) (Unit {0}) e
        → Refuses (VoteFault domain slot decision (rest_of start)) (Unit {0}) e
    found_slot_refused e w =
        refuses_from (BytesFault slot (rest_of second)) (VoteFault domain slot decision (rest_of start)) (Unit {0})
        (Unit {0}) (λ f v. bad_second d (rest_of second) is_domain.0 (bad_first v)) (λ never. never) e w

    module _ (t : List ℕ) (third : Source) (is_slot : AreFound slot second t third) where
      -- what the decision is refused for
      pub found_decision_refused : (e : Error) → Refuses (BytesFault decision (rest_of third)) (Unit {0}) e
          → Refuses (VoteFault domain slot decision (rest_of start)) (Unit {0}) e
      found_decision_refused e w =
          refuses_from (BytesFault decision (rest_of third)) (VoteFault domain slot decision (rest_of start)) (Unit {0})
          (Unit {0}) (λ f v. bad_second d (rest_of second) is_domain.0 (bad_second t (rest_of third) is_slot.0 v))
          (λ never. never) e w

      -- all three are a vote
      pub vote_found : (u : List ℕ) (last : Source) → AreFound decision third u last
          → Accepts vote_enc IsWritableVote (IsAllowedVote domain slot decision) (rest_of start) (d, (t, u)) (rest_of last)
          × Consumes start last (vote_enc (d, (t, u)))
      vote_found u last is_decision =
          let after =
          consumes_both second third last (bytes_enc t) (bytes_enc u) is_slot.1 is_decision.1 in
          let whole = consumes_both start second last (bytes_enc d) (bytes_enc t ++ bytes_enc u) is_domain.1 after in (
            record {
              writable = (is_domain.0.writable, (is_slot.0.writable, is_decision.0.writable));
              allowed = (is_domain.0.allowed, (is_slot.0.allowed, is_decision.0.allowed));
              begins = whole.rest;
            },
            whole,
          )

-- a vote was found: it is accepted, and its encoding was taken
abbrev pub IsVoteFound : Bounds ℕ → Bounds ℕ → Bounds ℕ → Source → Fields → Source → Type 0
IsVoteFound domain slot decision start vote next =
    Accepts vote_enc IsWritableVote (IsAllowedVote domain slot decision) (rest_of start) vote (rest_of next)
    × Consumes start next (vote_enc vote)

module _ (domain slot decision signers : Bounds ℕ) (start : Source) where
  -- what the vote is refused for
  pub found_vote_refused : (e : Error) → Refuses (VoteFault domain slot decision (rest_of start)) (Unit {0}) e
      → Refuses (VoteCertificateFault domain slot decision signers (rest_of start)) (Unit {0}) e
  found_vote_refused e w =
      refuses_from (VoteFault domain slot decision (rest_of start))
      (VoteCertificateFault domain slot decision signers (rest_of start)) (Unit {0}) (Unit {0}) (λ f v. bad_first v)
      (λ never. never) e w

  module _ (v : Fields) (next : Source) (is_vote : IsVoteFound domain slot decision start v next) where
    -- what the signers are refused for
    pub found_signers_refused : (e : Error) → Refuses (SignersFault signers (rest_of next)) (Unit {0}) e
        → Refuses (VoteCertificateFault domain slot decision signers (rest_of start)) (Unit {0}) e
    found_signers_refused e w =
        refuses_from (SignersFault signers (rest_of next))
        (VoteCertificateFault domain slot decision signers (rest_of start)) (Unit {0}) (Unit {0})
        (λ f u. bad_second v (rest_of next) is_vote.0 u) (λ never. never) e w

    -- both are a certificate of the vote
    pub vote_certificate_found : (indices : List ℕ) (last : Source)
        → Accepts (list_enc varint) (IsWritableSet IsWord nat_cmp) (AreAllowedSigners signers) (rest_of next) indices
        (rest_of last)
        → Consumes next last (list_enc varint indices)
        → Accepts vote_certificate_enc IsWritableVoteCertificate (IsAllowedVoteCertificate domain slot decision signers)
        (rest_of start) (v, indices) (rest_of last)
        × Consumes start last (vote_certificate_enc (v, indices))
    vote_certificate_found indices last accepted after =
        let whole = consumes_both start next last (vote_enc v) (list_enc varint indices) is_vote.1 after in (
          record {
            writable = (is_vote.0.writable, accepted.writable);
            allowed = (is_vote.0.allowed, accepted.allowed);
            begins = whole.rest;
          },
          whole,
        )
