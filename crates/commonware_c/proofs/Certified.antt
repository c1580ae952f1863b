-- What one certificate is that a quorum signed, and where its parts are.
use Rattle.std.proofs.Common.{◌≡◌, ◌∙◌, ℕ, List, [], ◌++◌, append_assoc, length, take, drop}
use Rattle.std.proofs.Common.{ap, sym, subst, arith, length-append}
use Rattle.std.proofs.Math.Seq.{drop-append_seam, take-append_seam}
use Rattle.std.proofs.lemmas.Bool.{and_parts}
use Rattle.std.proofs.lemmas.List.{drop-drop}
use Rattle.std.specs.Cmp.Lexicographic.{same_text}
use Rattle.commonware_base.specs.Lists.{list_enc}
use Rattle.commonware_base.specs.Bytes.{byte}
use Rattle.std.specs.List.{flat_map}
use Rattle.commonware_base.specs.Varint.{varint}
use Rattle.commonware_base.specs.laws.RefusalLaws.{fault_of_refusal}
use Rattle.commonware_base.proofs.ByteSteps.{bytes_join}
use Rattle.committee_certificates.specs.Certificates.{certificate_enc, CertificateFault}
use Rattle.committee_certificates.specs.Signers.{AreMembers, HasOutsider}
use Rattle.committee_certificates.specs.laws.CertificateLaws.{certificate_canonical, certificate_laws, certificate_prefix_free}
use Rattle.commonware_c.specs.Certificates.{any_length, faulty, IsCertificate, IsNoWhole, IsWhole, left_over}
use Rattle.commonware_c.specs.Checks.{IsCertifiedOf, IsSlotIn, IsUncertified, IsValueAt, StandAt, TellsSlot}
use Rattle.commonware_c.specs.Checks.{no_members, no_model, no_slot_in, outside, slot_in, too_few, unread, with_slot, without_slot}
use Rattle.commonware_c.specs.declared.checks.CheckView.{CheckView}
use Rattle.commonware_c.proofs.EncodingLemmas.{varint_some}
use Rattle.commonware_c.proofs.Offsets.{value_stands}

-- an input is one certificate at most, and then nothing or something follows it
one_encoding : (s : List ℕ) (c d : List ℕ × List ℕ) (rest : List ℕ) → IsWhole s c
    → IsCertificate any_length any_length s d rest → certificate_enc d ≡ certificate_enc c
one_encoding s c d rest whole found =
    certificate_prefix_free d c rest [] found.writable whole.writable (sym found.begins ∙ whole.begins)

-- so nothing follows
nothing_follows : (s : List ℕ) (c d : List ℕ × List ℕ) (rest : List ℕ) → IsWhole s c
    → IsCertificate any_length any_length s d rest → length rest ≡ 0
nothing_follows s c d rest whole found =
    let same = ap length (one_encoding s c d rest whole found) in
    let one = ap length whole.begins in
    let two = ap length found.begins in
    omega (arith, same, one, two, length-append (certificate_enc c) [], length-append (certificate_enc d) rest)

-- and its signers are the same
pub one_list : (s : List ℕ) (c d : List ℕ × List ℕ) → IsWhole s c → IsWhole s d → d.1 ≡ c.1
one_list s c d whole found =
    let equal = (certificate_canonical.equal_by_bytes d c found.writable whole.writable).1 (one_encoding s c d [] whole found) in
    same_text d.1 c.1 (sym (and_parts _ _ equal).1)

-- a member and an outsider are two
pub members_no_outsider : (n : ℕ) (xs : List ℕ) → AreMembers n xs → ¬ HasOutsider n xs
members_no_outsider n xs m o = let below = m o.0 o.1 o.2 in omega (arith, below, o.3, o.4)

-- what is told to be no certificate is none
pub not_whole : (s : List ℕ) (status number : ℕ) → IsNoWhole s status number → (certificate : List ℕ × List ℕ)
    → ¬ IsWhole s certificate
not_whole s status number (left_over a l) certificate whole =
    let none = nothing_follows s certificate l.0 l.1 whole l.2 in
    omega (arith, none, l.3, l.4)
not_whole s status number (faulty r) certificate whole =
    let fault = fault_of_refusal (CertificateFault any_length any_length s) r.0 r.1 in
    (certificate_laws any_length any_length).accepted_no_fault s certificate [] fault.0 whole fault.1

-- and what is told to be none of a quorum
pub not_certified : (k n : ℕ) (s : List ℕ) (status number : ℕ) → IsUncertified k n s status number
    → (certificate : List ℕ × List ℕ) → ¬ IsCertifiedOf k n s certificate
not_certified k n s status number (no_model a b h) certificate c = omega (arith, h, c.0.0)
not_certified k n s status number (no_members a b h none) certificate c = omega (arith, none, c.0.1)
not_certified k n s status number (unread model why) certificate c = not_whole s status number why certificate c.1
not_certified k n s status number (outside a b model d whole o) certificate c =
    let members = c.2.2.0 in
    members_no_outsider n certificate.1 members
    (subst (HasOutsider n) (one_list s certificate d c.1 whole) o)
not_certified k n s status number (too_few f a b model t d whole members few) certificate c =
    let same = t.only c.2.0 c.2.1.greatest in
    let lists = ap length (one_list s certificate d c.1 whole) in
    omega (arith, same, few, c.2.2.1, lists)

module _ (s value signers : List ℕ) (view : CheckView) (whole : IsWhole s (value, signers)) (at : IsValueAt value view) where
  -- the value is where the view says
  pub value_at : StandAt s view.value_start view.value_length value
  value_at = record {
    stands =
        ap (λ n. take n (drop view.value_start s)) at.length_is
        ∙ ap (λ m. take (length value) (drop m s)) at.start_is
        ∙ ap (λ t. take (length value) (drop (length (varint (length value))) t)) whole.begins
        ∙ value_stands value signers [];
    count_is = at.length_is;
  }

  -- what follows it
  abbrev after : List ℕ
  after = list_enc varint signers ++ []

  -- the bytes from there on
  from_value : drop view.value_start s ≡ value ++ after
  from_value =
      let front = varint (length value) in
      let bytes = flat_map byte value in
      let parts : s ≡ front ++ (bytes ++ after) =
      whole.begins ∙ append_assoc (front ++ bytes) (list_enc varint signers) [] ∙ append_assoc front bytes after in
      ap (λ m. drop m s) at.start_is ∙ ap (drop (length front)) parts ∙ drop-append_seam front (bytes ++ after)
      ∙ ap (λ b. b ++ after) (bytes_join value)

  -- and its slot and its decision
  pub slot_at : IsSlotIn value view → TellsSlot s value view
  slot_at (no_slot_in never a b c d) = without_slot never a b c d
  slot_at (slot_in slot decision is a b c d) =
      let front = varint (length slot) in
      let value_is : value ++ after ≡ front ++ (slot ++ (decision ++ after)) =
      ap (λ v. v ++ after) is.text ∙ append_assoc (front ++ slot) decision after
      ∙ append_assoc front slot (decision ++ after) in
      let from_slot : drop view.slot_start s ≡ slot ++ (decision ++ after) =
      ap (λ m. drop m s) a ∙ sym (drop-drop (length front) view.value_start s)
      ∙ ap (drop (length front)) (from_value ∙ value_is) ∙ drop-append_seam front (slot ++ (decision ++ after)) in
      let from_decision : drop view.decision_start s ≡ decision ++ after =
      ap (λ m. drop m s) c ∙ sym (drop-drop (length slot) view.slot_start s)
      ∙ ap (drop (length slot)) from_slot ∙ drop-append_seam slot (decision ++ after) in
      with_slot slot decision is (omega (arith, a, varint_some (length slot))) (record {
        stands =
            ap (λ n. take n (drop view.slot_start s)) b ∙ ap (take (length slot)) from_slot
            ∙ take-append_seam slot (decision ++ after);
        count_is = b;
      }) (record {
        stands =
            ap (λ n. take n (drop view.decision_start s)) d ∙ ap (take (length decision)) from_decision
            ∙ take-append_seam decision after;
        count_is = d;
      })
