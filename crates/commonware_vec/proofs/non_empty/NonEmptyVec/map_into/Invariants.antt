use Rattle.std.proofs.Common.{◌≡◌, length, ◌+◌, ◌≤◌, vec_len}
use Rattle.std.specs.Vec.{vec_capacity}
use Rattle.std.specs.Vec.Iter.{into_iter_items, into_iter_len}
use Rattle.commonware_base.specs.laws.CallLaws.{CallsSoFar}
use Rattle.commonware_vec.specs.Closures.{CalledWith}
use Rattle.commonware_vec.proofs.non_empty.NonEmptyVec.map_into.Given as goal

abbrev pub invariant-loop-item : goal.invariant-loop-item
invariant-loop-item g l = record {
  room : vec_len l.mapped + length (into_iter_items l.item-iterator) ≤ vec_capacity l.mapped;
  calls : CallsSoFar (CalledWith g.F.FnMut) l.fn.f l.fn.self l.mapped.items l.f (into_iter_items l.item-iterator);
  counted : into_iter_len l.item-iterator ≡ length (into_iter_items l.item-iterator);
}
