-- What is written is one certificate, and it is that one that is asked about.
use Rattle.std.proofs.Common.{◌≡◌, inl, rules, subst, take}
use Rattle.committee_certificates.specs.Certificates.{certificate_enc}
use Rattle.committee_certificates.specs.Signers.{AreQuorum}
use Rattle.commonware_c.proofs.Certified.{one_list}
use Rattle.commonware_c.proofs.ReadBack.{cut_to, whole_certificate}
use Rattle.commonware_c.proofs.round_trips.certificate_there_and_checked.Goals as goal

pub returns : goal.returns
returns c =
    let value = c.args.value.now in
    let signers = c.args.signers.now in
    let room = c.commonware_certificate_encode-written.new.out in
    let size = c.commonware_certificate_encode-written.result.size in
    let write = c.commonware_certificate_encode-written.ensures in
    let check = c.commonware_check-view.ensures in
    let ok : c.commonware_certificate_encode-written.result.status ≡ 0 = search rules in
    let cut = cut_to (certificate_enc (value, signers)) c.args.room.now room size (write.written ok) (write.size (inl ok)).0 in
    let whole = whole_certificate value signers (take size room) (write.exactly.0 ok).0 cut in (
      λ e.
          let told = check.accepted e in
          let certified = told.certified in
          let same = one_list (take size room) (value, signers) (told.value, told.signers) whole certified.1 in
          (certified.0, (certified.2.0, certified.2.1, subst (AreQuorum (λ _. certified.2.0) c.args.members) same certified.2.2)),
      λ w. check.exactly.1 ((value, signers), (w.0, whole, w.1)),
    )
