use Rattle.std.proofs.Common.{drop}
use denote.Text.{Utf8}
use denote.Shadow.{shadow}
use Rattle.commonware_ordered.proofs.Texts.{WritesSoFar}
use Rattle.commonware_ordered.proofs.display.write_items.Given as goal

abbrev pub invariant-loop-item : goal.invariant-loop-item
invariant-loop-item g l = shadow (Utf8 l.lead) × WritesSoFar g.W.Write.write_str_gives g.T.Display.output l.items (drop l.item-index l.items) l.lead l.initial.f l.f
