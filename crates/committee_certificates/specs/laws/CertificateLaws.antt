-- Certificates keep the laws of equality and of the codec.
use Rattle.std.specs.Prelude.{◌≡◌, ℕ, ◌<◌, ◌^◌, List, [], ◌∷◌, ◌++◌, length, nat_eq, true}
use Rattle.std.proofs.Common.{◌∙◌, arith, subst, sym}
use Rattle.std.proofs.lemmas.List.{append_assoc}
use Rattle.std.specs.List.{flat_map}
use Rattle.std.specs.Cmp.{IsEquivalence, IsPartialEquivalence}
use Rattle.std.specs.Cmp.{and_equiv, nat_eq_equiv, on_equiv, partial_equiv_from_equiv, unsigned_ties}
use Rattle.std.specs.Cmp.Lexicographic.{lists_equiv, pointwise}
use Rattle.std.specs.Ordering.{nat_cmp}
use Rattle.std.proofs.lemmas.Cmp.{nat_cmp_total}
use Rattle.commonware_base.specs.Bytes.{byte, byte_fault}
use Rattle.commonware_base.specs.laws.ByteLaws.{byte_canonical, byte_laws, byte_prefix_free}
use Rattle.commonware_base.specs.Fault.{Fault}
use Rattle.commonware_base.specs.laws.ListLaws.{list_bytes, list_canonical, list_laws, list_prefix_free}
use Rattle.commonware_base.specs.Lists.{empty, list_enc, IsListMemoryFree, IsWritableList}
use Rattle.commonware_base.specs.laws.VecLaws.{vec_of}
use Rattle.commonware_base.specs.laws.NumberLaws.{number_canonical, number_prefix_free, varint_laws}
use Rattle.commonware_base.specs.Range.{Bounds}
use Rattle.commonware_base.specs.Sequence.{sequence_case}
use Rattle.commonware_base.specs.laws.SequenceLaws.{sequence_bytes, sequence_canonical}
use Rattle.commonware_base.specs.laws.SequenceLaws.{sequence_laws, sequence_one_case, sequence_prefix_free}
use Rattle.commonware_base.specs.Text.{Accepts, AreBytes, CanonicalLaws, IsByte, IsPrefixFree, ReadLaws}
use Rattle.commonware_base.specs.Varint.{varint, varint_fault}
use Rattle.commonware_base.specs.laws.VarintLaws.{varint_bytes, varint_split}
use Rattle.commonware_base.specs.Words.{IsWord}
use Rattle.commonware_ordered.specs.laws.SetLaws.{set_canonical, set_laws, set_prefix_free}
use Rattle.commonware_ordered.specs.Sets.{IsWritableSet}
use Rattle.committee_certificates.specs.Certificates.{are_equal_parts, certificate_enc, parts}
use Rattle.committee_certificates.specs.Certificates.{AreAllowedSigners, IsAllowedCertificate, IsAllowedValue}
use Rattle.committee_certificates.specs.Certificates.{CertificateFault, IsCertificateMemoryFree}
use Rattle.committee_certificates.specs.Certificates.{IsWritableCertificate, empty_value, refused_value}
use Rattle.committee_certificates.specs.Certificates.{SignersFault, ValueFault}
use Rattle.committee_certificates.specs.declared.certificate.Certificate.{Certificate}

-- equality of both parts is an equivalence
are_equal_parts_equiv : IsEquivalence are_equal_parts
are_equal_parts_equiv =
    and_equiv (on_equiv (λ p. p.0) (lists_equiv nat_eq_equiv)) (on_equiv (λ p. p.1) (lists_equiv nat_eq_equiv))

-- and so is that of certificates
pub parts_equiv : {A : Type 0} → IsEquivalence {K = Certificate A} (λ x y. are_equal_parts (parts x) (parts y))
parts_equiv = on_equiv parts are_equal_parts_equiv

-- it is symmetric and transitive
pub parts_per : {A : Type 0} → IsPartialEquivalence {K = Certificate A} (λ x y. are_equal_parts (parts x) (parts y))
parts_per = partial_equiv_from_equiv parts_equiv

-- certificates of the same parts are equal
pub equal_from_same_parts : {A : Type 0} (x y : Certificate A)
    → parts y ≡ parts x → are_equal_parts (parts x) (parts y) ≡ true
equal_from_same_parts x y same =
    subst (λ p. are_equal_parts (parts x) p ≡ true) (sym same) (are_equal_parts_equiv.refl (parts x))

-- a certificate of writable parts
pub certificate_of : {A : Type 0} → A → (p : List ℕ × List ℕ) → IsWritableCertificate p
    → (c : Certificate A) × (p ≡ parts c)
certificate_of alloc p w =
    let v = vec_of alloc p.0 w.0.short in
    (record { value = v.0; signers = p.1 }, λ i. (v.1 i, p.1))

-- no encoding of a value is a proper prefix of another's
value_prefix_free : IsPrefixFree (list_enc byte) (IsWritableList IsByte)
value_prefix_free = list_prefix_free byte IsByte byte_prefix_free

-- no encoding of signers is a proper prefix of another's
signers_prefix_free : IsPrefixFree (list_enc varint) (IsWritableSet IsWord nat_cmp)
signers_prefix_free = set_prefix_free varint IsWord nat_cmp number_prefix_free

-- no encoding of a certificate is a proper prefix of another's
pub certificate_prefix_free : IsPrefixFree certificate_enc IsWritableCertificate
certificate_prefix_free =
    sequence_prefix_free (list_enc byte) (IsWritableList IsByte) value_prefix_free
    (list_enc varint) (IsWritableSet IsWord nat_cmp) signers_prefix_free

-- what is written is bytes
pub certificate_bytes : (p : List ℕ × List ℕ) → IsWritableCertificate p → AreBytes (certificate_enc p)
certificate_bytes =
    sequence_bytes (list_enc byte) (IsWritableList IsByte) value_prefix_free
    (list_enc varint) (IsWritableSet IsWord nat_cmp)
    (list_bytes byte IsByte (λ v h. (h, tt))) (λ s h. list_bytes varint IsWord varint_bytes s h.list)

-- certificates are equal exactly where their encodings are
pub certificate_canonical : CanonicalLaws certificate_enc IsWritableCertificate are_equal_parts
certificate_canonical =
    sequence_canonical (list_enc byte) (IsWritableList IsByte) value_prefix_free
    (list_enc varint) (IsWritableSet IsWord nat_cmp) signers_prefix_free (pointwise nat_eq) (pointwise nat_eq)
    (list_canonical byte IsByte byte_prefix_free nat_eq byte_canonical)
    (set_canonical varint IsWord nat_cmp number_prefix_free nat_eq nat_cmp_total unsigned_ties number_canonical)

module _ (value signers : Bounds ℕ) where
  -- the laws of the encodings of values
  value_laws : ReadLaws (list_enc byte) (IsWritableList IsByte) (IsAllowedValue value) (ValueFault value)
  value_laws = list_laws byte IsByte byte_prefix_free (λ _. Unit {0}) byte_fault value byte_laws

  -- the laws of the encodings of signers
  signers_laws : ReadLaws (list_enc varint) (IsWritableSet IsWord nat_cmp) (AreAllowedSigners signers)
      (SignersFault signers)
  signers_laws =
      set_laws varint IsWord nat_cmp number_prefix_free nat_eq nat_cmp_total unsigned_ties number_canonical
      (λ _. Unit {0}) varint_fault signers varint_laws

  -- the laws of the encodings of certificates
  pub certificate_laws : ReadLaws certificate_enc IsWritableCertificate (IsAllowedCertificate value signers)
      (CertificateFault value signers)
  certificate_laws =
      sequence_laws (list_enc byte) (IsWritableList IsByte) value_prefix_free
      (list_enc varint) (IsWritableSet IsWord nat_cmp) signers_prefix_free
      (IsAllowedValue value) (ValueFault value) value_laws
      (λ _. AreAllowedSigners signers) (λ _. SignersFault signers) (λ _. signers_laws)
      (λ x z y _ _ _ h. h) (λ x z s f _ _ _ w. w)

  -- where the value's decoding isn't memory-free, the certificate's isn't
  pub value_needs_memory : (s : List ℕ) → ¬ IsListMemoryFree byte_fault (λ _. Unit {0}) value s
      → ¬ IsCertificateMemoryFree value signers s
  value_needs_memory s needs (refused_value f w free) = needs free
  value_needs_memory s needs (empty_value rest e free) = needs (empty rest e)

  -- nor where the value is decoded, and the signers' decoding isn't memory-free
  pub signers_need_memory : (s v rest : List ℕ)
      → Accepts (list_enc byte) (IsWritableList IsByte) (IsAllowedValue value) s v rest
      → ¬ IsListMemoryFree varint_fault (λ _. Unit {0}) signers rest → ¬ IsCertificateMemoryFree value signers s
  signers_need_memory s v rest a needs (refused_value f w free) = value_laws.accepted_no_fault s v rest f a w
  signers_need_memory s v rest a needs (empty_value t e free) = go v a.writable.short split
    where
      split : varint (length v) ++ (flat_map byte v ++ rest) ≡ varint 0 ++ t
      split = sym (append_assoc (varint (length v)) (flat_map byte v) rest) ∙ sym a.begins ∙ e

      go : (xs : List ℕ) → length xs < 2 ^ 32 → varint (length xs) ++ (flat_map byte xs ++ rest) ≡ varint 0 ++ t → ⊥
      go [] short same =
          needs (subst (IsListMemoryFree varint_fault (λ _. Unit {0}) signers)
          (sym (varint_split 0 0 rest t short short same).1) free)
      go (x ∷ xs) short same =
          let none = (varint_split (length (x ∷ xs)) 0 (flat_map byte (x ∷ xs) ++ rest) t short (omega arith) same).0 in
          omega (arith, none)

  -- two faults of an input are in one error case
  pub certificate_one_case : (s : List ℕ) (f g : Fault)
      (v : CertificateFault value signers s f) (w : CertificateFault value signers s g)
      → sequence_case v ≡ sequence_case w
  certificate_one_case =
      sequence_one_case (list_enc byte) (IsWritableList IsByte) value_prefix_free
      (list_enc varint) (IsWritableSet IsWord nat_cmp) signers_prefix_free
      (IsAllowedValue value) (ValueFault value) value_laws
      (λ _. AreAllowedSigners signers) (λ _. SignersFault signers) (λ _. signers_laws)
      (λ x z y _ _ _ h. h) (λ x z s f _ _ _ w. w)
