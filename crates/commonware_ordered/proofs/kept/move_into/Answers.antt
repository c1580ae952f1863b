use Rattle.std.proofs.Common.{◌∙◌}
use Rattle.commonware_ordered.proofs.InOrder.{kept_more, left_none, left_start}
use Rattle.commonware_ordered.proofs.kept.move_into.Goals as goal

pub loop-item-init : goal.loop-item-init
loop-item-init g c =
    let a = c.into_iter-item-iterator.ensures.into_iter_gives in
    left_start c.args.run.items _ _ a.0 (a.1 ∙ c.args.run.ok.0) c.requires.empty

pub loop-item-preserved : goal.loop-item-preserved
loop-item-preserved g c = kept_more g.met.T.Ord.total _ _ _ _ _ _ c.in_ok-put.field-0 c.requires.strict c.loop-item.invariant c.in-Some.ensures.steps c.in_ok-put.ensures

pub returns : goal.returns
returns g c = left_none _ _ _ c.next.new.self c.loop-item.invariant c.in-None.ensures.steps
