use Rattle.std.proofs.Common.{arith, subst}
use Rattle.commonware_views.specs.laws.ItemLaws.{none_left_over, one_reading}
use Rattle.commonware_ordered.specs.Strict.{IsStrict}
use Rattle.commonware_sequence.specs.FixedBytes.{bytes_cmp}
use Rattle.commonware_c.proofs.Made.{no_items}
use Rattle.commonware_c.proofs.written.commonware_set_encode_dedup.Goals as goal

pub returns-in-Ok-clause-not_whole : goal.returns-in-Ok-clause-not_whole
returns-in-Ok-clause-not_whole c =
    let whole = none_left_over c.args.size c.args.keys.now c.in-Ok.items c.in-Ok.ensures.items in (
      (λ e. absurd (omega (arith, e, (c.write_items.ensures.else_memory (λ ok. omega (arith, e, ok)) (λ ok. omega (arith, e, ok)) (λ ok. omega (arith, e, ok))).0))),
      (λ w. absurd (w.1 whole)),
    )

pub returns-in-Ok-clause-nothing : goal.returns-in-Ok-clause-nothing
returns-in-Ok-clause-nothing c = λ none.
    c.write_items.ensures.nothing (no_items c.args.size c.in-Ok.ensures.whole c.args.keys.now c.in-Ok.items c.in-Ok.ensures.items none)

pub returns-in-Ok-clause-in_order : goal.returns-in-Ok-clause-in_order
returns-in-Ok-clause-in_order c = λ items are strict.
    c.write_items.ensures.in_order (subst (IsStrict bytes_cmp) (one_reading c.args.size c.args.keys.now c.in-Ok.ensures.whole items c.in-Ok.items are c.in-Ok.ensures.items) strict)
