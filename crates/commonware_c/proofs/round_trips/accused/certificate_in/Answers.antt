-- What is written is one certificate.
use Rattle.std.proofs.Common.{◌≡◌, inl, rules, take}
use Rattle.committee_certificates.specs.Certificates.{certificate_enc}
use Rattle.commonware_c.proofs.ReadBack.{cut_to, whole_certificate}
use Rattle.commonware_c.proofs.round_trips.accused.certificate_in.Goals as goal

pub returns : goal.returns
returns c =
    let value = c.args.signed.now.value.now in
    let signers = c.args.signed.now.signers.now in
    let room = c.commonware_certificate_encode-written.new.out in
    let view = c.commonware_certificate_encode-written.result in
    let write = c.commonware_certificate_encode-written.ensures in
    let ok : view.status ≡ 0 = search rules in
    whole_certificate value signers (take view.size room) (write.exactly.0 ok).0
    (cut_to (certificate_enc (value, signers)) c.args.room.now room view.size (write.written ok) (write.size (inl ok)).0)
