use Rattle.std.proofs.Common.{length, ◌+◌, ◌≤◌, vec_len}
use Rattle.std.specs.Fn.{CalledAt}
use Rattle.std.specs.Slice.Iter.{iter_rest}
use Rattle.std.specs.Vec.{vec_capacity}
use Rattle.commonware_base.specs.laws.CallLaws.{CallsSoFar}
use Rattle.commonware_vec.proofs.non_empty.NonEmptyVec.map.Given as goal

abbrev pub invariant-loop-item : goal.invariant-loop-item
invariant-loop-item g l = record {
  room : vec_len l.answers + length (iter_rest l.item-iterator) ≤ vec_capacity l.answers;
  calls : CallsSoFar (CalledAt g.F.FnMut) l.fn.f l.fn.self l.answers.items l.f (iter_rest l.item-iterator);
}
