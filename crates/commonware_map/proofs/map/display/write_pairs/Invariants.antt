use denote.Text.{Utf8}
use denote.Shadow.{shadow}
use Rattle.commonware_map.proofs.Zipped.{pairs_left}
use Rattle.commonware_map.specs.Pairs.{pair_text}
use Rattle.commonware_ordered.proofs.Texts.{WritesSoFar}
use Rattle.commonware_map.proofs.map.display.write_pairs.Given as goal

abbrev pub invariant-loop-key : goal.invariant-loop-key
invariant-loop-key g l =
    shadow (Utf8 l.lead) × WritesSoFar g.W.Write.write_str_gives (λ p. pair_text (g.K.Display.output p.0) (g.V.Display.output p.1)) l.fn.map
    (pairs_left l.key-iterator) l.lead l.fn.f l.f
