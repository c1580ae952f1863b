use Rattle.std.proofs.Common.{ap, ◌∙◌, rules, subst, sym}
use Rattle.std.specs.List.{zip}
use Rattle.std.specs.Vec.Iter.{into_iter_items, into_iter_len}
use Rattle.commonware_ordered.specs.Put.{IsPrefix}
use Rattle.commonware_map.proofs.Columns.{zip-parts}
use Rattle.commonware_map.proofs.Entries.{pair_more}
use Rattle.commonware_ordered.proofs.Zipped.{left_none, left_prefix, left_start}
use Rattle.commonware_map.proofs.sorted_entries.run.Run.move_into.Goals as goal

pub loop-key-init : goal.loop-key-init
loop-key-init g c =
    let a = c.zip-key-items.ensures in
    let b = c.into_iter.ensures in
    let d = c.into_columns-keys.ensures in
    left_start c.into_columns-keys.result.0.items c.into_columns-keys.result.1.items _ _ c.zip-key-items.result c.into_iter-key-iterator.ensures.into_iter_gives
    (ap into_iter_items a.first ∙ b.rest) (ap into_iter_len a.first ∙ (b.len ∙ c.into_columns-keys.result.0.ok.0)) a.second.0 (a.second.1 ∙ c.into_columns-keys.result.1.ok.0)
    ((λ j. zip (d.keys j) (d.values j)) ∙ zip-parts c.take.result ∙ c.take.ensures.taken) _ c.requires

pub loop-key-preserved : goal.loop-key-preserved
loop-key-preserved g c =
    let strict = rw c.take.ensures.taken at c.into_columns-keys.ensures.strict in
    pair_more g.met.K.Ord.total _ _ _ _ _ _ c.in_ok-put.field-0 strict c.loop-key.invariant c.in-Some.ensures.steps c.in_ok-put.ensures.put

pub returns-clause-moved : goal.returns-clause-moved
returns-clause-moved g c = left_none _ _ _ c.next.new.self c.loop-key.invariant c.in-None.ensures.steps

pub returns-in_err-put-clause-prefix : goal.returns-in_err-put-clause-prefix
returns-in_err-put-clause-prefix g c =
    let given : IsPrefix c.put.new.tree.entries c.args.self.now = subst (λ done. IsPrefix done c.args.self.now) (sym c.in_err-put.ensures.unchanged) (left_prefix _ _ _ c.loop-key.invariant) in
    search (rules, given)
