-- The sum so far is no more than all weigh.
use Rattle.std.proofs.Common.{◌≡◌, ◌<◌, length, get_or, subst, sym, ◌∙◌, ap, take, arith}
use Rattle.std.proofs.lemmas.List.{get_or_default, take_all}
use Rattle.std.proofs.lemmas.List.Elements.{All-more}
use Rattle.std.specs.List.{sum_by}
use Rattle.committee_certificates.specs.Signers.{AreMembers}
use Rattle.committee_weights.proofs.Listed.{sum_next, sum_so_far, weight_at, weight_of-listed}
use Rattle.committee_weights.proofs.slices.weight_of_indices.Goals as goal

pub overflow_add-weight : goal.overflow_add-weight
overflow_add-weight c =
    let ws = c.args.weights.now in
    let xs = c.args.indices.now in
    let i = c.loop-index.index-index in
    let x = get_or xs i 0 in
    let weighs : c.in-Some.more.now ≡ get_or ws x 0 = c.in-Some.ensures.lookup.3.1 0 in
    let here : x ≡ get_or xs i x = get_or_default xs i 0 x c.loop-index-test.true in
    let most = sum_so_far ws xs i x c.in-Some.more.now c.requires.strict c.loop-index-test.true here weighs in
    omega (arith, most, c.loop-index.invariant.0, c.requires.fits)

pub loop-index-preserved : goal.loop-index-preserved
loop-index-preserved c =
    let ws = c.args.weights.now in
    let xs = c.args.indices.now in
    let i = c.loop-index.index-index in
    let x = get_or xs i 0 in
    let at = c.in-Some.ensures.lookup.3 in
    let weighs : c.in-Some.more.now ≡ get_or ws x 0 = at.1 0 in
    let here : x ≡ get_or xs i x = get_or_default xs i 0 x c.loop-index-test.true in
    let next = sum_next ws xs i x c.in-Some.more.now c.loop-index-test.true here weighs in
    let inside : x < length ws = at.0 in (
      omega (arith, next, c.loop-index.invariant.0),
      All-more (λ p. p < length ws) xs i x c.loop-index-test.true c.loop-index.invariant.1 (subst (λ p. p < length ws) here inside),
    )

pub returns : goal.returns
returns c =
    let ws = c.args.weights.now in
    let xs = c.args.indices.now in
    let end : take c.loop-index.index-index xs ≡ xs = take_all c.loop-index.index-index xs c.loop-index-test.false in (
      subst (AreMembers (length ws)) end c.loop-index.invariant.1,
      c.loop-index.invariant.0 ∙ ap (λ l. sum_by (weight_at ws) l) end ∙ sym (weight_of-listed ws xs c.requires.strict),
    )
