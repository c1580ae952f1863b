use Rattle.std.proofs.Common.{◌+◌, ◌↔◌, ◌≡◌, ℕ, arith, subst}
use Rattle.commonware_views.specs.laws.ItemLaws.{none_left_over, one_reading}
use Rattle.commonware_c.specs.Pairs.{AreInKeyOrder, RepeatsKey}
use Rattle.commonware_c.proofs.Made.{no_items}
use Rattle.commonware_c.proofs.unique.commonware_map_encode.Goals as goal

pub returns-in-Ok-clause-exactly : goal.returns-in-Ok-clause-exactly
returns-in-Ok-clause-exactly c = λ some enough rows are.
    subst (λ rs. (c.write_all_rows.result.status ≡ 19) ↔ ((index : ℕ) × RepeatsKey c.args.key_size rs index))
    (one_reading (c.args.key_size + c.args.value_size) c.args.pairs.now (λ none. some (omega (arith, none))) c.in-Ok.rows rows c.in-Ok.ensures.rows are)
    (c.write_all_rows.ensures.exactly enough)

pub returns-in-Ok-clause-not_whole : goal.returns-in-Ok-clause-not_whole
returns-in-Ok-clause-not_whole c =
    let whole = none_left_over (c.args.key_size + c.args.value_size) c.args.pairs.now c.in-Ok.rows c.in-Ok.ensures.rows in (
      (λ e. absurd (omega (
        arith,
        e,
        (c.write_all_rows.ensures.else_memory (λ ok. omega (arith, e, ok)) (λ ok. omega (arith, e, ok)) (λ ok. omega (arith, e, ok)) (λ ok. omega (arith, e, ok))).0,
      ))),
      (λ w. absurd (w.1 whole)),
    )

pub returns-in-Err-clause-exactly : goal.returns-in-Err-clause-exactly
returns-in-Err-clause-exactly c = λ some enough rows are.
    let whole = none_left_over (c.args.key_size + c.args.value_size) c.args.pairs.now rows are in
    absurd (omega (arith, whole, c.in-Err.ensures.left_over))

pub returns-in-Ok-clause-nothing : goal.returns-in-Ok-clause-nothing
returns-in-Ok-clause-nothing c = λ none.
    c.write_all_rows.ensures.nothing (no_items (c.args.key_size + c.args.value_size) (λ zero. c.if-key_size-eq0.false (omega (arith, zero))) c.args.pairs.now c.in-Ok.rows c.in-Ok.ensures.rows none)

pub returns-in-Ok-clause-in_order : goal.returns-in-Ok-clause-in_order
returns-in-Ok-clause-in_order c = λ rows are strict.
    c.write_all_rows.ensures.in_order
    (subst (AreInKeyOrder c.args.key_size)
    (one_reading (c.args.key_size + c.args.value_size) c.args.pairs.now (λ zero. c.if-key_size-eq0.false (omega (arith, zero))) rows c.in-Ok.rows are c.in-Ok.ensures.rows) strict)
