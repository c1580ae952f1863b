use Rattle.std.proofs.Common.{ap, sym, ◌∙◌, ◌++◌, append-nil, append_assoc}
use Rattle.std.proofs.Math.Seq.{take_all}
use Rattle.std.specs.List.{flat_map}
use Rattle.commonware_base.proofs.ListSteps.{one_more}
use Rattle.commonware_base.proofs.codec.list.push_items.Goals as goal

pub loop-item-init : goal.loop-item-init
loop-item-init g c = sym (append-nil c.args.sink.now.items)

pub loop-item-preserved : goal.loop-item-preserved
loop-item-preserved g c =
    let enc = g.T.EncodeSize.enc in
    let held = c.args.sink.now.items in
    let more = one_more enc c.args.items.now c.loop-item.item-index c.item-item.result c.loop-item-test.true c.item-item.is in
    c.in_ok-write.ensures.ok ∙ (ap (λ l. l ++ enc c.item-item.result) c.loop-item.invariant ∙ (append_assoc held _ (enc c.item-item.result) ∙ ap (λ l. held ++ l) more))

pub returns-clause-ok : goal.returns-clause-ok
returns-clause-ok g c =
    c.loop-item.invariant ∙ ap (λ l. c.args.sink.now.items ++ flat_map g.T.EncodeSize.enc l) (take_all c.loop-item.item-index c.args.items.now c.loop-item-test.false)
