use Rattle.std.proofs.Common.{subst}
use Rattle.commonware_ordered.specs.Strict.{IsPlaceOf}
use Rattle.commonware_ordered.proofs.Places.{place_only}
use Rattle.commonware_ordered.specs.laws.PlaceLaws.{answer-place}
use Rattle.commonware_ordered.proofs.set.Set.position_counted.Goals as goal

pub returns-clause-only : goal.returns-clause-only
returns-clause-only g c =
    let found = subst (λ xs. IsPlaceOf g.T.Order.same xs c.args.item.now c.place_of.result) c.as_slice.ensures.items c.place_of.ensures.place in
    place_only g.met.T.CountedOrd.total g.met.T.CountedOrd.ties _ _ _ c.as_slice.ensures.strict found

pub returns-clause-found : goal.returns-clause-found
returns-clause-found g c =
    let found = subst (λ xs. IsPlaceOf g.T.Order.same xs c.args.item.now c.place_of.result) c.as_slice.ensures.items c.place_of.ensures.place in
    answer-place g.T.Order.same _ c.args.item.now _ found
