use Rattle.std.proofs.Common.{Vec}
use Rattle.std.specs.Prelude.{◌≡◌, ◌<◌, ◌^◌}
use Rattle.std.specs.Iterator.Runs.{YieldsInOrder}
use Rattle.std.specs.Vec.{vec_len}
use Rattle.std.specs.Vec.Iter.{into_iter_items, into_iter_len, into_iter_steps}
use Rattle.std.specs.declared.vec.IntoIter.{IntoIter}
use Rattle.commonware_ordered.specs.laws.WholeLaws.{whole_set_of_list}
use Rattle.commonware_utils.proofs.bench.rows.set_builders.try_from_items.Goals as goal

-- what is known of the iterator of a list
abbrev Walks : {X Z : Type 0} → Vec X Z → IntoIter X Z → Type 0
Walks {X} {Z} v it = (into_iter_items it ≡ v.items) × (into_iter_len it ≡ vec_len v) × (into_iter_len it < 2 ^ 64) × YieldsInOrder (into_iter_steps {X = X} {Z = Z}) into_iter_items

pub returns : goal.returns
returns g c = whole_set_of_list into_iter_items Walks c.args.items c.args.items.items g.T.PartialEq.eq g.T.Ord.cmp c.try_from_iter.result c.try_from_iter.ensures.ok c.try_from_iter.ensures.err (λ s made. (made.0, made.3))
