-- Parts that aren't light stay so with more.
use Rattle.std.proofs.Common.{arith}
use Rattle.committee_weights.proofs.Searching.{light_before}
use Rattle.committee_weights.proofs.greatest.+least_unsafe.Goals as goal

pub returns-in_default-clause-least : goal.returns-in_default-clause-least
returns-in_default-clause-least t c = λ f light.
    let parts = c.args.parts in
    absurd (c.in_default.ensures.none f (light_before c.args.k c.args.rest.now parts.one parts.other parts.both f light))

pub returns-then-best-least-clause-least : goal.returns-then-best-least-clause-least
returns-then-best-least-clause-least t c = λ f light.
    let parts = c.args.parts in
    let before = c.in-Some.ensures.least f
    (light_before c.args.k c.args.rest.now parts.one parts.other parts.both f light) in
    omega (arith, before, c.if-best-least.true)
