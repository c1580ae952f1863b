-- What is written is one certificate, and what is read is that one.
use Rattle.std.proofs.Common.{◌≡◌, ◌∙◌, ◌++◌, inl, inr, ap, arith, drop, length, rules}
use Rattle.committee_certificates.specs.Certificates.{certificate_enc}
use Rattle.commonware_c.proofs.ReadBack.{begins_with, one_certificate, written_certificate}
use Rattle.commonware_c.proofs.round_trips.certificate_there_and_back.Goals as goal

pub returns-clause-back : goal.returns-clause-back
returns-clause-back c =
    let value = c.args.value.now in
    let signers = c.args.signers.now in
    let old = c.args.room.now in
    let room = c.commonware_certificate_encode-written.new.out in
    let write = c.commonware_certificate_encode-written.ensures in
    let read = c.commonware_certificate_read-view.ensures in
    let ok : c.commonware_certificate_encode-written.result.status ≡ 0 = search rules in
    let rest = drop (length (certificate_enc (value, signers))) old in
    let written = written_certificate value signers room rest (write.exactly.0 ok).0
    (begins_with (certificate_enc (value, signers)) old room (write.written ok)) in
    let status : c.commonware_certificate_read-view.result.status ≡ 0 =
    elim (read.exactly.1 ((value, signers), rest, written)) [
      | inl e ↦ e
      | inr e ↦
          let r = read.room e in
          let same = one_certificate _ _ _ _ room (r.1.value, r.0) (value, signers) r.1.rest rest r.1.accepted written in
          absurd (omega (arith, r.2, r.1.signers_is, ap length same.1, c.requires))
    ] in
    let a = read.accepted status in
    let same = one_certificate _ _ _ _ room (a.1.value, a.0) (value, signers) a.1.rest rest a.1.accepted written in
    let count = a.1.signers_is ∙ ap length same.1 in (
      status,
      a.1.stands ∙ same.0,
      count,
      a.2 ∙ ap (λ l. l ++ drop c.commonware_certificate_read-view.result.signers c.args.out.now) same.1
          ∙ ap (λ n. signers ++ drop n c.args.out.now) count,
    )
