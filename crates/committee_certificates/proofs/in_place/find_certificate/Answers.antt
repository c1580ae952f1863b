use Rattle.std.proofs.Common.{refl, arith, sym, subst, take}
use Rattle.commonware_base.proofs.Errors.{err_along}
use Rattle.commonware_base.specs.Source.{rest_of, Consumes}
use Rattle.commonware_base.specs.Text.{Accepts}
use Rattle.committee_certificates.specs.Certificates.{certificate_enc, IsAllowedCertificate, IsWritableCertificate}
use Rattle.committee_certificates.proofs.FoundValue.{certificate_found, signers_refused, value_lacks, value_outside}
use Rattle.committee_certificates.proofs.in_place.find_certificate.Goals as goal

pub returns-then-not-contains-clause-refused : goal.returns-then-not-contains-clause-refused
returns-then-not-contains-clause-refused c =
    value_outside c.args.value_range c.args.signers_range c.in_ok-length.length c.args.src.now c.read_varint.new.src
    c.in_ok-length.ensures.fits c.in_ok-length.ensures.consumed (λ w. cc (c.if-not-contains.ensures.1 w))

pub returns-then-remaining-length-clause-refused : goal.returns-then-remaining-length-clause-refused
returns-then-remaining-length-clause-refused c =
    value_lacks c.args.value_range c.args.signers_range c.in_ok-length.length c.args.src.now c.read_varint.new.src
    c.in_ok-length.ensures.fits c.in_ok-length.ensures.consumed (c.if-not-contains.ensures.0 refl)
    (omega (arith, c.remaining.ensures, c.if-remaining-length.true))

pub returns-in_err-signers-clause-refused : goal.returns-in_err-signers-clause-refused
returns-in_err-signers-clause-refused c =
    err_along c.from_residual-in_err-signers.result c.in_err-signers.field-0.0 _ c.from_residual-in_err-signers.ensures.1
    (signers_refused c.args.value_range c.args.signers_range c.in_ok-length.length c.args.src.now c.read_varint.new.src
    c.in_ok-length.ensures.fits c.in_ok-length.ensures.consumed (c.if-not-contains.ensures.0 refl)
    (omega (arith, c.remaining.ensures, c.if-remaining-length.false)) c.advance.new.self c.advance.ensures.bytes
    c.advance.ensures.position c.in_err-signers.field-0.0 c.in_err-signers.ensures.refused)

pub returns-clause-accepted : goal.returns-clause-accepted
returns-clause-accepted c =
    let (indices, accepted, taken, signers) = c.in_ok-signers.ensures.accepted in
    let found =
    certificate_found c.args.value_range c.args.signers_range c.in_ok-length.length c.args.src.now c.read_varint.new.src
    c.in_ok-length.ensures.fits c.in_ok-length.ensures.consumed (c.if-not-contains.ensures.0 refl)
    (omega (arith, c.remaining.ensures, c.if-remaining-length.false)) c.advance.new.self c.advance.ensures.bytes
    c.advance.ensures.position indices c.find_signers.new.src accepted taken in
    let (whole, consumed) =
    subst (λ r. Accepts certificate_enc IsWritableCertificate
    (IsAllowedCertificate c.args.value_range c.args.signers_range) (rest_of c.args.src.now)
    (take c.in_ok-length.length r, indices) (rest_of c.find_signers.new.src)
    × Consumes c.args.src.now c.find_signers.new.src (certificate_enc (take c.in_ok-length.length r, indices)))
    (sym c.rest.ensures) found in
    (indices, whole, consumed, signers)
