use Rattle.std.proofs.Common.{sym, ap, ◌∙◌, arith}
use Rattle.std.specs.Ordering.{is_gt}
use Rattle.commonware_ordered.proofs.Narrowing.{place_from_item, place_before_item}
use Rattle.commonware_ordered.proofs.search.halving_step.Goals as goal

pub returns-then-is_gt-clause-within : goal.returns-then-is_gt-clause-within
returns-then-is_gt-clause-within g c = λ k there h.
    let x = c.args.item.now in
    let p = c.requires.within k there h in
    let before = place_before_item g.met.T.CountedOrd.total g.met.T.CountedOrd.ties c.args.items.now x _ k x c.requires.strict (omega arith) there h (sym c.if-is_gt.true ∙ (c.is_gt.ensures ∙ ap is_gt (c.cmp_from.ensures.value x))) in
    (p.0, omega arith)

pub returns-else-is_gt-clause-within : goal.returns-else-is_gt-clause-within
returns-else-is_gt-clause-within g c = λ k there h.
    let x = c.args.item.now in
    let p = c.requires.within k there h in
    let high = p.1 in
    let from = place_from_item g.met.T.CountedOrd.total g.met.T.CountedOrd.ties c.args.items.now x _ k x c.requires.strict (omega arith) there h (sym c.if-is_gt.false ∙ (c.is_gt.ensures ∙ ap is_gt (c.cmp_from.ensures.value x))) in
    (from, omega arith)
