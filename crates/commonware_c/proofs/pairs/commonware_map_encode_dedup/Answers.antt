use Rattle.std.proofs.Common.{◌+◌, arith, subst}
use Rattle.commonware_views.specs.laws.ItemLaws.{none_left_over, one_reading}
use Rattle.commonware_c.specs.Pairs.{AreInKeyOrder}
use Rattle.commonware_c.proofs.Made.{no_items}
use Rattle.commonware_c.proofs.pairs.commonware_map_encode_dedup.Goals as goal

pub returns-in-Ok-clause-not_whole : goal.returns-in-Ok-clause-not_whole
returns-in-Ok-clause-not_whole c =
    let whole = none_left_over (c.args.key_size + c.args.value_size) c.args.pairs.now c.in-Ok.rows c.in-Ok.ensures.rows in (
      (λ e. absurd (omega (arith, e, (c.write_rows.ensures.else_memory (λ ok. omega (arith, e, ok)) (λ ok. omega (arith, e, ok)) (λ ok. omega (arith, e, ok))).0))),
      (λ w. absurd (w.1 whole)),
    )

pub returns-in-Ok-clause-nothing : goal.returns-in-Ok-clause-nothing
returns-in-Ok-clause-nothing c = λ none.
    c.write_rows.ensures.nothing (no_items (c.args.key_size + c.args.value_size) (λ zero. c.if-key_size-eq0.false (omega (arith, zero))) c.args.pairs.now c.in-Ok.rows c.in-Ok.ensures.rows none)

pub returns-in-Ok-clause-in_order : goal.returns-in-Ok-clause-in_order
returns-in-Ok-clause-in_order c = λ rows are strict.
    c.write_rows.ensures.in_order
    (subst (AreInKeyOrder c.args.key_size)
    (one_reading (c.args.key_size + c.args.value_size) c.args.pairs.now (λ zero. c.if-key_size-eq0.false (omega (arith, zero))) rows c.in-Ok.rows are c.in-Ok.ensures.rows) strict)
