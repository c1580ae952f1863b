use Rattle.std.proofs.Common.{subst}
use Rattle.std.proofs.lemmas.List.Sorted.{IsPermutation-refl}
use Rattle.commonware_ordered.specs.Strict.{IsStrict}
use Rattle.commonware_ordered.proofs.Taken.{whole_set_of_vec}
use Rattle.commonware_ordered.proofs.Whole.{whole_from_strict}
use Rattle.commonware_ordered.proofs.set.Set.try_from_vec.Goals as goal

pub returns-then-are_strict-clause-whole : goal.returns-then-are_strict-clause-whole
returns-then-are_strict-clause-whole g c =
    let strict = subst (IsStrict g.T.Ord.cmp) c.as_slice.ensures.value (c.are_strict.ensures.strict.0 c.if-are_strict.true) in
    whole_from_strict g.met.T.Ord.total g.met.T.Ord.matches_eq g.met.T.Eq.laws.symm c.args.vec.items c.args.vec.items (IsPermutation-refl c.args.vec.items) strict

pub returns-clause-whole : goal.returns-clause-whole
returns-clause-whole g c = whole_set_of_vec g.T.PartialEq.eq g.T.Ord.cmp c.args.vec c.try_from_iter.result c.try_from_iter.ensures.ok c.try_from_iter.ensures.err
