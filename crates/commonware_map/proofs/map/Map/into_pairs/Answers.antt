use Rattle.std.proofs.Common.{ap, ◌∙◌}
use Rattle.std.specs.List.{zip}
use Rattle.std.specs.Vec.Iter.{into_iter_items, into_iter_len}
use Rattle.commonware_map.proofs.Columns.{zip-parts}
use Rattle.commonware_map.proofs.Zipped.{left_more, left_none, left_start}
use Rattle.commonware_map.proofs.map.Map.into_pairs.Goals as goal

pub loop-pair-init : goal.loop-pair-init
loop-pair-init g c =
    let a = c.zip-pair-items.ensures in
    let b = c.into_iter.ensures.into_iter_gives in
    let d = c.into_columns-keys.ensures in
    left_start c.into_columns-keys.result.0 c.into_columns-keys.result.1.items _ _ c.zip-pair-items.result c.into_iter-pair-iterator.ensures.into_iter_gives
    (ap into_iter_items a.first ∙ b.0) (ap into_iter_len a.first ∙ b.1) a.second.0 (a.second.1 ∙ c.into_columns-keys.result.1.ok.0)
    ((λ j. zip (d.0 j) (d.1 j)) ∙ zip-parts c.args.self) _ c.in_ok-pairs.ensures.items

pub loop-pair-preserved : goal.loop-pair-preserved
loop-pair-preserved g c = left_more _ _ _ _ _ _ c.loop-pair.invariant c.in-Some.ensures.steps c.in_ok-push.ensures.items

pub returns-clause-pairs : goal.returns-clause-pairs
returns-clause-pairs g c = left_none _ _ _ c.next.new.self c.loop-pair.invariant c.in-None.ensures.steps
