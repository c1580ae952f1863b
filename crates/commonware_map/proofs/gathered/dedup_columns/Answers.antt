use mathlib.Core.Bool.{true≢false}
use Rattle.commonware_ordered.proofs.Taken.{drawn_one, on_err}
use Rattle.std.proofs.Common.{ap, false, length, subst, sym, ◌∙◌}
use Rattle.std.specs.List.{zip}
use Rattle.std.proofs.lemmas.Cmp.{on_total}
use Rattle.std.proofs.lemmas.Map.Entries.{length-keys_of, length-values_of}
use Rattle.commonware_ordered.proofs.Put.{Keeps, dedup_from_keeps, keeps_put, keeps_some}
use Rattle.commonware_ordered.specs.Strict.{IsStrict}
use Rattle.commonware_map.proofs.ByKeys.{strict_by_keys}
use Rattle.commonware_map.proofs.Columns.{zip-parts}
use Rattle.commonware_map.proofs.gathered.dedup_columns.Goals as goal

pub loop-key-preserved : goal.loop-key-preserved
loop-key-preserved g c =
    let total = on_total (λ (p : g.row.K.Denot × g.row.V.Denot). p.0) g.met.K.Ord.total in
    keeps_put total c.loop-key.yielded c.loop-key.entries c.insert_among.new.self (c.in-Some.key, c.in-Some.value) c.in_ok-insert_among.field-0 c.loop-key.invariant c.in_ok-insert_among.ensures.put

pub returns-in_err-insert_among-clause-nothing : goal.returns-in_err-insert_among-clause-nothing
returns-in_err-insert_among-clause-nothing g c =
    let given = subst (g.I.IntoIterator.into_iter_gives c.args.iter) (sym c.into_iter-key-iterator.ensures.into_iter_gives) c.into_iter-rest.ensures.into_iter_gives in
    on_err c.from_residual.result (drawn_one g.I.IntoIterator.into_iter_gives g.I.IntoIter.Iterator.next_gives c.args.iter _ _ _ c.loop-key.yielded (c.in-Some.key, c.in-Some.value) given c.loop-key.yielded_by c.in-Some.ensures.steps)

pub returns-in_err-keys-clause-nothing : goal.returns-in_err-keys-clause-nothing
returns-in_err-keys-clause-nothing g c =
    let total = on_total (λ (p : g.row.K.Denot × g.row.V.Denot). p.0) g.met.K.Ord.total in
    let some = keeps_some total c.loop-key.yielded c.loop-key.entries c.loop-key.invariant c.in_err-keys.ensures.nothing in
    let given = subst (g.I.IntoIterator.into_iter_gives c.args.iter) (sym c.into_iter-key-iterator.ensures.into_iter_gives) c.into_iter-rest.ensures.into_iter_gives in
    on_err c.from_residual-in_err-keys.result (c.into_iter-key-iterator.result, given, (c.loop-key.yielded, false, (c.loop-key.key-iterator, c.loop-key.yielded_by, λ ended. absurd (true≢false (sym ended))), some))

pub returns-clause-dedup : goal.returns-clause-dedup
returns-clause-dedup g c =
    let total = on_total (λ (p : g.row.K.Denot × g.row.V.Denot). p.0) g.met.K.Ord.total in
    let es = c.loop-key.entries in
    let pairs = (λ j. zip (c.in_ok-keys.ensures.keys j) (c.in_ok-keys.ensures.values j)) ∙ zip-parts es in
    let strict = strict_by_keys g.K.Ord.cmp es (subst (IsStrict g.K.Ord.cmp) c.in_ok-keys.ensures.keys c.in_ok-keys.ensures.strict) in
    let given = subst (g.I.IntoIterator.into_iter_gives c.args.iter) (sym c.into_iter-key-iterator.ensures.into_iter_gives) c.into_iter-rest.ensures.into_iter_gives in (
      c.into_iter-key-iterator.result,
      c.loop-key.yielded,
      given,
      (c.next.new.self, (c.loop-key.key-iterator, c.loop-key.yielded_by, c.in-None.ensures.steps)),
      dedup_from_keeps total (λ p q. g.met.K.Ord.matches_eq p.0 q.0) c.loop-key.yielded _ (subst (IsStrict (λ p q. g.K.Ord.cmp p.0 q.0)) (sym pairs) strict) (subst (Keeps total c.loop-key.yielded) (sym pairs) c.loop-key.invariant),
    )

pub returns-clause-even : goal.returns-clause-even
returns-clause-even g c =
    let es = c.loop-key.entries in
    ap length c.in_ok-keys.ensures.values ∙ (length-values_of es ∙ sym (ap length c.in_ok-keys.ensures.keys ∙ length-keys_of es))
