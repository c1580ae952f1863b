use Rattle.std.proofs.Common.{◌≡◌, true, false, get_or, refl, sym, ap, ◌∙◌}
use mathlib.Core.Bool.{true≢false}
use Rattle.std.specs.Ordering.{is_ge}
use Rattle.commonware_ordered.proofs.Narrowing.{at_least_from_place}
use Rattle.commonware_ordered.proofs.search.reached.Goals as goal

pub returns-then-is_ge-clause-value : goal.returns-then-is_ge-clause-value
returns-then-is_ge-clause-value g c = λ k there h.
    let x = c.args.item.now in
    let p = at_least_from_place g.met.T.CountedOrd.total g.met.T.CountedOrd.ties c.args.items.now x c.args.place k x c.requires.strict c.requires.inside there h in
    let answer : is_ge (g.T.Order.order x (get_or c.args.items.now c.args.place x)) ≡ true = ap is_ge (sym (c.cmp_at.ensures.value x)) ∙ sym c.if-is_ge.ensures in
    (λ low. refl, λ high. absurd (true≢false (sym answer ∙ p.1 high)))

pub returns-else-is_ge-clause-value : goal.returns-else-is_ge-clause-value
returns-else-is_ge-clause-value g c = λ k there h.
    let x = c.args.item.now in
    let p = at_least_from_place g.met.T.CountedOrd.total g.met.T.CountedOrd.ties c.args.items.now x c.args.place k x c.requires.strict c.requires.inside there h in
    let answer : is_ge (g.T.Order.order x (get_or c.args.items.now c.args.place x)) ≡ false = ap is_ge (sym (c.cmp_at.ensures.value x)) ∙ sym c.if-is_ge.ensures in
    (λ low. absurd (true≢false (sym (p.0 low) ∙ answer)), λ high. refl)
