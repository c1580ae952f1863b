use Rattle.std.proofs.Common.{◌≡◌, [], ◌∷◌, ap, refl, subst, sym, ◌∙◌}
use Rattle.std.specs.List.{zip}
use Rattle.std.specs.Slice.Iter.{iter_rest}
use Rattle.commonware_map.specs.Pairs.{pair_text}
use Rattle.commonware_map.proofs.Columns.{zip-parts}
use Rattle.commonware_ordered.proofs.Texts.{WritesSoFar, WritesSoFar_none, WritesSoFar_more, WritesSoFar_all}
use Rattle.commonware_map.proofs.Zipped.{pairs_left, shown_more, shown_none}
use Rattle.commonware_map.proofs.map.display.write_pairs.Goals as goal

pub loop-key-init : goal.loop-key-init
loop-key-init g c =
    let text = λ (p : g.row.K.Denot × g.row.V.Denot). pair_text (g.K.Display.output p.0) (g.V.Display.output p.1) in
    let whole = c.args.map.now in
    let a = c.zip-key-items.ensures in
    let all : pairs_left c.into_iter-key-iterator.result ≡ whole =
    ap pairs_left c.into_iter-key-iterator.ensures.into_iter_gives ∙ (λ j. zip ((ap iter_rest a.first ∙ c.iter.ensures.rest ∙ c.keys.ensures) j) ((a.second.0 ∙ c.values.ensures) j)) ∙ zip-parts whole in (
      ([], (refl, refl)),
      subst (λ items. WritesSoFar g.W.Write.write_str_gives text whole items [] c.args.f.now c.args.f.now) (sym all) (WritesSoFar_none g.W.Write.write_str_gives text whole c.args.f.now),
    )

pub loop-key-preserved : goal.loop-key-preserved
unfolding lib.Utf8.encode
loop-key-preserved g c = (
  (44 ∷ 32 ∷ [], (refl, refl)),
  WritesSoFar_more g.W.Write.write_str_gives (λ p. pair_text (g.K.Display.output p.0) (g.V.Display.output p.1)) c.args.map.now _ _ c.loop-key.lead.now (c.in-Some.key.now, c.in-Some.value.now)
      c.args.f.now c.loop-key.f c.write_str.new.self c.write.new.self
      (shown_more c.loop-key.key-iterator c.next.new.self (c.in-Some.key, c.in-Some.value) c.in-Some.ensures.steps) c.loop-key.invariant.1 c.in_ok-write_str.ensures.writes c.in_ok-write.ensures.writes,
)

pub returns : goal.returns
returns g c =
    WritesSoFar_all g.W.Write.write_str_gives (λ p. pair_text (g.K.Display.output p.0) (g.V.Display.output p.1)) c.args.map.now _ c.loop-key.lead.now c.args.f.now c.loop-key.f
    (shown_none c.loop-key.key-iterator c.next.new.self c.in-None.ensures.steps) c.loop-key.invariant.1
