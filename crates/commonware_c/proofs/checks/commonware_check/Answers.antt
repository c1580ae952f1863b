use Rattle.std.proofs.Common.{ap, ◌∙◌, sym}
use Rattle.commonware_c.proofs.Certified.{not_certified, slot_at, value_at}
use Rattle.commonware_c.proofs.checks.commonware_check.Goals as goal

pub returns-in-Ok-clause-accepted : goal.returns-in-Ok-clause-accepted
returns-in-Ok-clause-accepted c = λ _.
    let (signers, certified, at) = c.in-Ok.ensures.certified in
    let value = c.in-Ok.certificate.value.now in
    let told = c.view_of.ensures in
    record {
      value = value;
      signers = signers;
      certified = certified;
      signers_is = told.signers signers at;
      number_is = told.number;
      value_stands = value_at c.args.input.now value signers c.view_of.result certified.1 told.value;
      value_place = told.value;
      slot_place = told.slot;
      slot = slot_at c.args.input.now value signers c.view_of.result certified.1 told.value told.slot;
    }

pub returns-in-Err-clause-exactly : goal.returns-in-Err-clause-exactly
returns-in-Err-clause-exactly c = (
  λ ok. absurd (let some = c.in-Err.ensures.status.0 in some (sym (ap (λ v. v.status) c.refused.ensures) ∙ ok)),
  λ w. absurd (not_certified c.args.k c.args.members c.args.input.now c.in-Err.status c.in-Err.number
      c.in-Err.ensures.refused w.0 w.1),
)
