-- The sum so far is no more than all weigh.
use Rattle.std.proofs.Common.{◌≡◌, ◌<◌, length, get_or, subst, sym, ◌∙◌, ap, take, arith}
use Rattle.std.proofs.lemmas.List.{take_all}
use Rattle.std.proofs.lemmas.List.Elements.{All-more}
use Rattle.std.specs.List.{sum_by}
use Rattle.committee_certificates.specs.Signers.{AreMembers}
use Rattle.committee_weights.proofs.Listed.{sum_next, sum_so_far, weight_at, weight_of-listed}
use Rattle.committee_weights.proofs.weights.sums.weight_listed.Goals as goal

pub overflow_add-weight : goal.overflow_add-weight
overflow_add-weight c =
    let at = c.in-Some.ensures.lookup in
    let ws = c.args.weights.now in
    let xs = c.args.listed.now in
    let weighs : c.in-Some.more.now ≡ get_or ws c.from.result 0 = at.3.1 0 in
    let here : c.from.result ≡ get_or xs c.loop-participant.participant-index c.from.result = cc (c.from.ensures, c.participant-item.is) in
    let most = sum_so_far ws xs c.loop-participant.participant-index c.from.result c.in-Some.more.now c.requires.strict
    c.loop-participant-test.true here weighs in
    omega (arith, most, c.loop-participant.invariant.0, c.requires.fits)

pub loop-participant-preserved : goal.loop-participant-preserved
loop-participant-preserved c =
    let at = c.in-Some.ensures.lookup in
    let ws = c.args.weights.now in
    let xs = c.args.listed.now in
    let i = c.loop-participant.participant-index in
    let weighs : c.in-Some.more.now ≡ get_or ws c.from.result 0 = at.3.1 0 in
    let here : c.from.result ≡ get_or xs i c.from.result = cc (c.from.ensures, c.participant-item.is) in
    let next = sum_next ws xs i c.from.result c.in-Some.more.now c.loop-participant-test.true here weighs in
    let inside : c.from.result < length ws = at.3.0 in (
      omega (arith, next, c.loop-participant.invariant.0),
      All-more (λ p. p < length ws) xs i c.from.result c.loop-participant-test.true c.loop-participant.invariant.1 (subst (λ p. p < length ws) here inside),
    )

pub returns : goal.returns
returns c =
    let ws = c.args.weights.now in
    let xs = c.args.listed.now in
    let end : take c.loop-participant.participant-index xs ≡ xs = take_all c.loop-participant.participant-index xs c.loop-participant-test.false in (
      subst (AreMembers (length ws)) end c.loop-participant.invariant.1,
      c.loop-participant.invariant.0 ∙ ap (λ l. sum_by (weight_at ws) l) end ∙ sym (weight_of-listed ws xs c.requires.strict),
    )
