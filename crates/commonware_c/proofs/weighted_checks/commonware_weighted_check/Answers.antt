use Rattle.std.proofs.Common.{ap, ◌∙◌, subst, sum, sym}
use Rattle.committee_weights.proofs.Safety.{weight_tolerance}
use Rattle.committee_weights.proofs.Sharing.{some_weight}
use Rattle.commonware_c.specs.WeightedChecks.{IsToldByWeight}
use Rattle.commonware_c.proofs.Certified.{slot_at, value_at}
use Rattle.commonware_c.proofs.Weighed.{not_weighed}
use Rattle.commonware_c.proofs.weighted_checks.commonware_weighted_check.Goals as goal

pub returns-in-Ok-clause-accepted : goal.returns-in-Ok-clause-accepted
returns-in-Ok-clause-accepted c = λ _.
    let ws = c.args.weights.now in
    let s = c.args.input.now in
    let (signers, certified, at, weighs) = c.in-Ok.ensures.certified in
    let value = c.in-Ok.certificate.value.now in
    let view = c.view_of.result in
    let told = c.view_of.ensures in
    let is : IsToldByWeight c.args.k ws s view c.in-Ok.weight = record {
      value = value;
      signers = signers;
      certified = certified;
      tolerance = weight_tolerance c.args.k (sum ws) certified.0.0 (some_weight ws certified.0.1.are_weights);
      signers_is = told.signers signers at;
      weight_is = weighs;
      number_is = told.number;
      value_stands = value_at s value signers view certified.1 told.value;
      value_place = told.value;
      slot = slot_at s value signers view certified.1 told.value told.slot;
      slot_place = told.slot;
    } in
    subst (λ v. IsToldByWeight c.args.k ws s v c.with_weight.result.weight) (sym c.with_weight.ensures.view)
    (subst (λ w. IsToldByWeight c.args.k ws s view w) (sym c.with_weight.ensures.weight) is)

pub returns-in-Err-clause-exactly : goal.returns-in-Err-clause-exactly
returns-in-Err-clause-exactly c =
    let status = ap (λ v. v.status) c.with_weight-in-Err.ensures.view ∙ ap (λ v. v.status) c.refused.ensures in (
      λ ok. absurd (c.in-Err.ensures.status.0 (sym status ∙ ok)),
      λ w. absurd (not_weighed c.args.k c.args.weights.now c.args.input.now c.in-Err.status c.in-Err.number
          c.in-Err.ensures.refused w.0 w.1),
    )
