use Rattle.std.proofs.Common.{◌≡◌, ◌∙◌, ap, subst, sym}
use Rattle.std.specs.Prelude.{None, Some}
use Rattle.std.specs.List.{slice_get}
use Rattle.std.specs.Map.{values_of}
use Rattle.std.specs.Option.{option_copied}
use Rattle.std.proofs.lemmas.Option.{same_Some}
use Rattle.commonware_views.proofs.Pairs.{pair_at, parts_at}
use Rattle.commonware_views.proofs.map.MapView.get_value_counted.Goals as goal

pub returns-in_err-position_counted-clause-value : goal.returns-in_err-position_counted-clause-value
returns-in_err-position_counted-clause-value g c = λ value. (
  (λ e. let never : None ≡ Some value = sym (ap option_copied c.from_residual.ensures) ∙ e in absurd (cc)),
  (λ w.
      let at = parts_at c.args.self.now w.0 c.args.key.now value w.1 in
      let never : None ≡ Some w.0 = sym c.in_err-position_counted.was ∙ (c.position_counted.ensures.place w.0).1 at.0 in
      absurd (cc)),
)

pub returns-clause-value : goal.returns-clause-value
returns-clause-value g c = λ value.
    let p = c.in_ok-position_counted.field-0 in
    let m = c.args.self.now in
    let key = c.args.key.now in
    let here = (c.position_counted.ensures.place p).0 c.in_ok-position_counted.was in (
      (λ e. (p, pair_at m p key value here (sym c.value.ensures ∙ e))),
      (λ w.
          let at = parts_at m w.0 key value w.1 in
          let same = same_Some p w.0 (sym c.in_ok-position_counted.was ∙ (c.position_counted.ensures.place w.0).1 at.0) in
          c.value.ensures ∙ subst (λ n. slice_get (values_of m) n ≡ Some value) (sym same) at.1),
    )
