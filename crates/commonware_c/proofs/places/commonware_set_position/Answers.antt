use Rattle.std.proofs.Common.{◌≡◌, ◌↔◌, length, sym, subst, arith}
use Rattle.std.specs.List.{Contains}
use Rattle.commonware_ordered.specs.Strict.{IsStrict}
use Rattle.commonware_sequence.specs.FixedBytes.{bytes_cmp}
use Rattle.commonware_views.specs.Lists.{IsNotWhole}
use Rattle.commonware_views.specs.laws.ItemLaws.{none_left_over, one_reading}
use Rattle.commonware_c.proofs.places.commonware_set_position.Goals as goal

pub returns-in-Ok-clause-exactly : goal.returns-in-Ok-clause-exactly
returns-in-Ok-clause-exactly c = λ some items are strict.
    let key = c.args.key.now in
    let same = one_reading (length key) c.args.keys.now some c.in-Ok.items items c.in-Ok.ensures.items are in
    subst (λ xs. (c.place_in.result.status ≡ 0) ↔ Contains xs key) same
    (c.place_in.ensures.exactly (subst (IsStrict bytes_cmp) (sym same) strict))

pub returns-in-Ok-clause-not_whole : goal.returns-in-Ok-clause-not_whole
returns-in-Ok-clause-not_whole c =
    let whole = none_left_over (length c.args.key.now) c.args.keys.now c.in-Ok.items c.in-Ok.ensures.items in (
      (λ e. absurd (omega (arith, e, (c.place_in.ensures.absent (λ ok. omega (arith, e, ok))).0))),
      (λ w. absurd (w.1 whole)),
    )

pub returns-in-Err-LeftOver-clause-exactly : goal.returns-in-Err-LeftOver-clause-exactly
returns-in-Err-LeftOver-clause-exactly c = λ some items are strict.
    let whole = none_left_over (length c.args.key.now) c.args.keys.now items are in
    let refused = subst (IsNotWhole (length c.args.key.now) c.args.keys.now) c.in-Err-LeftOver.field-0-is c.in-Err-LeftOver.ensures.refused in
    absurd (omega (arith, whole, refused.1, refused.2))
