use Rattle.std.proofs.Common.{arith, sym}
use Rattle.std.proofs.lemmas.Option.{slice_get_within}
use Rattle.commonware_c.proofs.Repeats.{all_pairs, past_last, put_known, put_new, some_rows}
use Rattle.commonware_ordered.proofs.Taken.{on_err}
use Rattle.commonware_c.proofs.unique.map_of_all.Goals as goal

pub returns-then-not-branch-clause-made : goal.returns-then-not-branch-clause-made
returns-then-not-branch-clause-made c = (
  put_known c.args.key_size c.args.rows.now c.loop-row.index c.in-Some.row.now c.loop-row.entries c.insert.new.self c.key_and_value.result (sym c.in-Some.ensures)
      (λ j. (c.key_and_value.ensures.key j, c.key_and_value.ensures.value j)) c.loop-row.invariant.1 c.in_ok-insert.field-0 c.if-not-branch.true c.in_ok-insert.ensures.put,
  c.loop-row.invariant.1.distinct,
)

pub overflow_add-index : goal.overflow_add-index
overflow_add-index c = omega (arith, slice_get_within c.args.rows.now c.loop-row.index c.in-Some.row.now (sym c.in-Some.ensures), c.len.ensures)

pub loop-row-smaller : goal.loop-row-smaller
loop-row-smaller c = omega (arith, slice_get_within c.args.rows.now c.loop-row.index c.in-Some.row.now (sym c.in-Some.ensures))

pub loop-row-preserved : goal.loop-row-preserved
loop-row-preserved c = (
  omega (arith, slice_get_within c.args.rows.now c.loop-row.index c.in-Some.row.now (sym c.in-Some.ensures)),
  put_new c.args.key_size c.args.rows.now c.loop-row.index c.in-Some.row.now c.loop-row.entries c.insert.new.self c.key_and_value.result (sym c.in-Some.ensures)
      (λ j. (c.key_and_value.ensures.key j, c.key_and_value.ensures.value j)) c.loop-row.invariant.1 c.in_ok-insert.field-0 c.if-not-branch.false c.in_ok-insert.ensures.put,
)

pub returns-clause-made : goal.returns-clause-made
returns-clause-made c =
    all_pairs c.args.key_size c.loop-row.index c.args.rows.now c.loop-row.entries c.in_ok-map_of_entries.field-0
    (past_last c.args.rows.now c.loop-row.index c.in_default.ensures) c.loop-row.invariant.1 c.in_ok-map_of_entries.ensures.pairs c.in_ok-map_of_entries.ensures.strict

pub returns-in_err-insert-clause-nothing : goal.returns-in_err-insert-clause-nothing
returns-in_err-insert-clause-nothing c =
    on_err c.from_residual-in_err-insert.result (omega (arith, slice_get_within c.args.rows.now c.loop-row.index c.in-Some.row.now (sym c.in-Some.ensures)))

pub returns-in_err-map_of_entries-clause-nothing : goal.returns-in_err-map_of_entries-clause-nothing
returns-in_err-map_of_entries-clause-nothing c =
    on_err c.from_residual-in_err-map_of_entries.result
    (some_rows c.args.key_size c.args.rows.now c.loop-row.index c.loop-row.entries c.loop-row.invariant.1 c.in_err-map_of_entries.ensures.nothing)
