use Rattle.std.proofs.Common.{ap, refl, ◌∙◌}
use Rattle.std.specs.Vec.Iter.{into_iter_items, into_iter_len}
use Rattle.commonware_ordered.proofs.Zipped.{left_more, left_none, left_start}
use Rattle.judge_verdicts.proofs.columns.pairs_of.Goals as goal

pub loop-key-init : goal.loop-key-init
loop-key-init g c =
    let a = c.zip-key-items.ensures in
    let b = c.into_iter.ensures in
    left_start c.args.keys.items c.args.values.items _ c.into_iter-key-iterator.result c.zip-key-items.result c.into_iter-key-iterator.ensures.into_iter_gives (ap into_iter_items a.first ∙ b.rest) (ap into_iter_len a.first ∙ (b.len ∙ c.args.keys.ok.0)) a.second.0 (a.second.1 ∙ c.args.values.ok.0) refl c.in_ok-pairs.pairs.items c.in_ok-pairs.ensures.items

pub loop-key-preserved : goal.loop-key-preserved
loop-key-preserved g c = left_more _ _ _ _ _ (c.in-Some.key, c.in-Some.value) c.loop-key.invariant c.in-Some.ensures.steps c.in_ok-push.ensures.items

pub returns : goal.returns
returns g c = left_none _ _ _ c.next.new.self c.loop-key.invariant c.in-None.ensures.steps
