use Rattle.std.proofs.Common.{◌∙◌, ap, arith, sym}
use Rattle.std.specs.List.{list_any}
use Rattle.std.proofs.lemmas.List.Filters.{length-filter_more}
use Rattle.uses.proofs.costs.members_among.Goals as goal
use Rattle.uses.proofs.costs.members_among.Goals.{then-contains_counted, else-contains_counted}

pub loop-i-preserved : goal.loop-i-preserved
loop-i-preserved g c =
    let cost = c.contains_counted.ensures.cost 10 c.requires.few in
    let so_far = c.loop-i.invariant.3 in
    let found = c.loop-i.invariant.0 in
    let most = c.loop-i.invariant.2 in
    let inside = c.loop-i-test.true in
    let key = c.index-keys-i.result in
    let more = length-filter_more (λ k. list_any (λ y. g.T.PartialEq.eq y k) c.args.committee.now) c.args.keys.now c.loop-i.i key inside in
    let here = ap (λ k. list_any (λ y. g.T.PartialEq.eq y k) c.args.committee.now) (sym c.index-keys-i.is) ∙ sym c.contains_counted.ensures.value in (
      elim c.if-contains_counted.branch [
        | then-contains_counted w ↦ let at = w.members-is in let told = rw (here ∙ w.if-contains_counted.true) at more in omega arith
        | else-contains_counted w ↦ let at = w.members-is in let told = rw (here ∙ w.if-contains_counted.false) at more in omega arith
      ],
      omega arith,
      elim c.if-contains_counted.branch [
        | then-contains_counted w ↦ let at = w.members-is in omega arith
        | else-contains_counted w ↦ let at = w.members-is in omega arith
      ],
      omega arith,
    )
