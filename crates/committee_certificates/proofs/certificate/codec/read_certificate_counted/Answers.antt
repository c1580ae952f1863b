use Rattle.commonware_base.proofs.Errors.{err_along}
use Rattle.commonware_base.specs.Bytes.{byte, byte_fault}
use Rattle.commonware_base.specs.Lists.{IsListMemoryFree, IsWritableList, list_enc}
use Rattle.commonware_base.specs.laws.RefusalLaws.{refuses_from}
use Rattle.commonware_base.specs.Sequence.{bad_first, bad_second}
use Rattle.commonware_base.specs.Source.{rest_of}
use Rattle.commonware_base.specs.Text.{Accepts, IsByte}
use Rattle.commonware_base.specs.Varint.{varint_fault}
use Rattle.committee_certificates.specs.Certificates.{CertificateFault, IsAllowedValue, IsCertificateMemoryFree}
use Rattle.committee_certificates.specs.Certificates.{SignersFault, ValueFault}
use Rattle.commonware_ordered.specs.Costs.{StatesLength}
use Rattle.committee_certificates.specs.ReadCosts.{HasAfterValue}
use Rattle.committee_certificates.specs.laws.ReadCostLaws.{one_after_value}
use Rattle.committee_certificates.specs.laws.CertificateLaws.{signers_need_memory, value_needs_memory}
use Rattle.std.proofs.Common.{arith, subst}
use Rattle.std.proofs.lemmas.Grind.{common_steps}
use Rattle.committee_certificates.proofs.certificate.codec.read_certificate_counted.Goals as goal

pub returns-in_err-value-clause-refused : goal.returns-in_err-value-clause-refused
returns-in_err-value-clause-refused g c =
    let text = rest_of c.args.src.now in
    let free = IsListMemoryFree byte_fault (λ _. Unit {0}) c.args.value_range text in
    err_along c.from_residual.result c.in_err-value.field-0.0 _ c.from_residual.ensures.1
    (refuses_from (ValueFault c.args.value_range text) (CertificateFault c.args.value_range c.args.signers_range text) free
    (IsCertificateMemoryFree c.args.value_range c.args.signers_range text) (λ f w. bad_first w)
    (value_needs_memory c.args.value_range c.args.signers_range text) c.in_err-value.field-0.0 c.in_err-value.ensures.refused)

pub returns-in_err-signers-clause-refused : goal.returns-in_err-signers-clause-refused
returns-in_err-signers-clause-refused g c =
    let text = rest_of c.args.src.now in
    let after = rest_of c.read_list.new.src in
    let a = c.in_ok-value.ensures in
    let accepted : Accepts (list_enc byte) (IsWritableList IsByte) (IsAllowedValue c.args.value_range) text
    c.in_ok-value.value.items after =
    record { writable = a.writable; allowed = a.allowed; begins = a.consumed.rest } in
    let free = IsListMemoryFree varint_fault (λ _. Unit {0}) c.args.signers_range after in
    err_along c.from_residual-in_err-signers.result c.in_err-signers.field-0.0 _ c.from_residual-in_err-signers.ensures.1
    (refuses_from (SignersFault c.args.signers_range after) (CertificateFault c.args.value_range c.args.signers_range text) free
    (IsCertificateMemoryFree c.args.value_range c.args.signers_range text)
    (λ f w. bad_second c.in_ok-value.value.items after accepted w)
    (signers_need_memory c.args.value_range c.args.signers_range text c.in_ok-value.value.items after accepted) c.in_err-signers.field-0.0 c.in_err-signers.ensures.refused)

pub returns-clause-accepted : goal.returns-clause-accepted
returns-clause-accepted g c = grind (arith, common_steps)

pub returns-clause-consumed : goal.returns-clause-consumed
returns-clause-consumed g c = grind (arith, common_steps)

pub returns-in_err-signers-clause-stated : goal.returns-in_err-signers-clause-stated
returns-in_err-signers-clause-stated g c = λ n states.
    let a = c.in_ok-value.ensures in
    let begins : HasAfterValue (rest_of c.args.src.now) (rest_of c.read_list.new.src) =
    record { value = c.in_ok-value.value.items; writable = a.writable; begins = a.consumed.rest } in
    let most = c.in_err-signers.ensures.stated n (subst (λ u. StatesLength u n) (one_after_value (rest_of c.args.src.now) states.0 (rest_of c.read_list.new.src) states.1 begins) states.2) in
    omega arith

pub returns-clause-stated : goal.returns-clause-stated
returns-clause-stated g c = λ n states.
    let a = c.in_ok-value.ensures in
    let begins : HasAfterValue (rest_of c.args.src.now) (rest_of c.read_list.new.src) =
    record { value = c.in_ok-value.value.items; writable = a.writable; begins = a.consumed.rest } in
    let most = c.in_ok-signers.ensures.stated n (subst (λ u. StatesLength u n) (one_after_value (rest_of c.args.src.now) states.0 (rest_of c.read_list.new.src) states.1 begins) states.2) in
    omega arith
