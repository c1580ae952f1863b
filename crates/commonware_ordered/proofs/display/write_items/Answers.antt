use Rattle.std.proofs.Common.{[], ◌∷◌, refl}
use Rattle.std.proofs.lemmas.List.{drop_all}
use Rattle.commonware_ordered.proofs.Texts.{dropped_at, WritesSoFar_none, WritesSoFar_more, WritesSoFar_all}
use Rattle.commonware_ordered.proofs.display.write_items.Goals as goal

pub loop-item-init : goal.loop-item-init
loop-item-init g c = (([], (refl, refl)), WritesSoFar_none g.W.Write.write_str_gives g.T.Display.output c.args.items.now c.args.f.now)

pub loop-item-preserved : goal.loop-item-preserved
unfolding lib.Utf8.encode
loop-item-preserved g c = (
  (44 ∷ 32 ∷ [], (refl, refl)),
  WritesSoFar_more g.W.Write.write_str_gives g.T.Display.output c.args.items.now _ _ c.loop-item.lead.now c.item-item.result c.args.f.now c.loop-item.f c.write_str.new.self c.write.new.self
      (dropped_at c.args.items.now c.loop-item.item-index c.item-item.result c.loop-item-test.true c.item-item.is) c.loop-item.invariant.1 c.in_ok-write_str.ensures.writes c.in_ok-write.ensures.writes,
)

pub returns : goal.returns
returns g c =
    WritesSoFar_all g.W.Write.write_str_gives g.T.Display.output c.args.items.now _ c.loop-item.lead.now c.args.f.now c.loop-item.f
    (drop_all c.loop-item.item-index c.args.items.now c.loop-item-test.false) c.loop-item.invariant.1
