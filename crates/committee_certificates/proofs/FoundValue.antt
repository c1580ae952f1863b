-- The value of a certificate, found where it is, and then its signers.
use Rattle.std.proofs.Common.{◌≡◌, ℕ, zero, suc, ◌+◌, ◌<◌, ◌≤◌, ◌^◌, List, [], ◌∷◌, ◌++◌, length, take, refl, ap, sym, ◌∙◌, arith, subst}
use Rattle.std.proofs.lemmas.List.{length-take-le}
use Rattle.commonware_base.specs.declared.codec.source.Source.{Source}
use Rattle.commonware_base.specs.declared.codec.error.Error.{Error}
use Rattle.commonware_base.specs.Bytes.{byte, byte_fault}
use Rattle.commonware_base.specs.Fault.{EndOfBuffer, InvalidLength}
use Rattle.commonware_base.specs.laws.ByteLaws.{byte_laws}
use Rattle.commonware_base.specs.laws.ItemsLaws.{each_allowed, items_lack}
use Rattle.commonware_base.specs.laws.RefusalLaws.{refuses_from}
use Rattle.commonware_base.specs.laws.SourceLaws.{rest_bytes}
use Rattle.commonware_base.specs.Lists.{list_enc, IsWritableList}
use Rattle.commonware_base.specs.Range.{Bounds, Within}
use Rattle.commonware_base.specs.Refusal.{Refuses}
use Rattle.commonware_base.specs.Sequence.{bad_first, bad_second}
use Rattle.commonware_base.specs.Source.{bytes_of, position_of, Consumes, rest_of}
use Rattle.commonware_base.specs.Text.{Accepts, AreBytes, IsByte}
use Rattle.commonware_base.specs.Varint.{varint}
use Rattle.commonware_base.proofs.ByteSteps.{byte_short, bytes_join}
use Rattle.commonware_base.proofs.ReadSteps.{list_faulty, read_outside}
use Rattle.commonware_base.proofs.SourceLemmas.{consumes_both, consumes_front}
use Rattle.commonware_base.specs.Words.{IsWord}
use Rattle.commonware_ordered.specs.Sets.{IsWritableSet}
use Rattle.std.specs.Ordering.{nat_cmp}
use Rattle.committee_certificates.specs.Certificates.{AreAllowedSigners, certificate_enc, CertificateFault}
use Rattle.committee_certificates.specs.Certificates.{IsAllowedCertificate, IsAllowedValue, IsWritableCertificate, SignersFault}

-- the first of some bytes are bytes
bytes_take : (n : ℕ) (xs : List ℕ) → AreBytes xs → AreBytes (take n xs)
bytes_take zero xs h = tt
bytes_take (suc n) [] h = tt
bytes_take (suc n) (x ∷ xs) h = (h.0, bytes_take n xs h.1)

module _ (value_range signers_range : Bounds ℕ) (count : ℕ) (start now : Source) (short : count < 2 ^ 32)
    (taken : Consumes start now (varint count)) where
  -- a length out of the range
  pub value_outside : ¬ Within value_range count
      → CertificateFault value_range signers_range (rest_of start) (InvalidLength count)
  value_outside outside =
      bad_first (read_outside byte IsByte (λ _. Unit {0}) value_range count start byte_fault (λ _. Unit {0}) now short
      outside taken)

  module _ (within : Within value_range count) where
    -- fewer bytes than the length
    pub value_lacks : length (rest_of now) < count
        → CertificateFault value_range signers_range (rest_of start) EndOfBuffer
    value_lacks fewer =
        bad_first (list_faulty byte IsByte (λ _. Unit {0}) value_range count start now short taken byte_fault
        (λ _. Unit {0}) within EndOfBuffer
        (items_lack byte IsByte byte_fault 1 (λ v w. refl) byte_short byte_laws.accepted_or_faulty count (rest_of now)
        (rest_bytes now) (omega (arith, fewer))))

    module _ (enough : count ≤ length (rest_of now)) (next : Source) (bytes : bytes_of next ≡ bytes_of now)
        (position : position_of next ≡ position_of now + count) where
      -- the bytes of the value were taken
      value_taken : Consumes start next (list_enc byte (take count (rest_of now)))
      value_taken =
          let value = take count (rest_of now) in
          let on = consumes_front now next count value bytes position enough refl in
          subst (Consumes start next)
          (ap (λ k. varint k ++ value) (sym (length-take-le count (rest_of now) enough))
          ∙ ap (λ u. varint (length value) ++ u) (sym (bytes_join value)))
          (consumes_both start now next (varint count) value taken on)

      -- the value is the bytes that are counted
      pub value_found : Accepts (list_enc byte) (IsWritableList IsByte) (IsAllowedValue value_range) (rest_of start)
          (take count (rest_of now)) (rest_of next)
      value_found =
          let value = take count (rest_of now) in
          let counted : length (take count (rest_of now)) ≡ count = length-take-le count (rest_of now) enough in
          record {
            writable = record {
              short = subst (λ k. k < 2 ^ 32) (sym counted) short;
              each = bytes_take count (rest_of now) (rest_bytes now);
            };
            allowed = record { in_range = subst (Within value_range) (sym counted) within; each = each_allowed value };
            begins = value_taken.rest;
          }

      -- what the signers after it are refused for
      pub signers_refused : (error : Error) → Refuses (SignersFault signers_range (rest_of next)) (Unit {0}) error
          → Refuses (CertificateFault value_range signers_range (rest_of start)) (Unit {0}) error
      signers_refused error w =
          refuses_from (SignersFault signers_range (rest_of next))
          (CertificateFault value_range signers_range (rest_of start)) (Unit {0}) (Unit {0})
          (λ f v. bad_second (take count (rest_of now)) (rest_of next) value_found v) (λ never. never) error w

      -- and the signers after it, whose bytes were taken as well
      pub certificate_found : (indices : List ℕ) (last : Source)
          → Accepts (list_enc varint) (IsWritableSet IsWord nat_cmp) (AreAllowedSigners signers_range) (rest_of next) indices
          (rest_of last)
          → Consumes next last (list_enc varint indices)
          → Accepts certificate_enc IsWritableCertificate (IsAllowedCertificate value_range signers_range) (rest_of start)
          (take count (rest_of now), indices) (rest_of last)
          × Consumes start last (certificate_enc (take count (rest_of now), indices))
      certificate_found indices last accepted after =
          let whole =
          consumes_both start next last (list_enc byte (take count (rest_of now))) (list_enc varint indices) value_taken
          after in (
            record {
              writable = (value_found.writable, accepted.writable);
              allowed = (value_found.allowed, accepted.allowed);
              begins = whole.rest;
            },
            whole,
          )
