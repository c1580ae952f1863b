use Rattle.std.proofs.Common.{length, ◌+◌, ◌≤◌, vec_len}
use Rattle.std.specs.List.{zip}
use Rattle.std.specs.Vec.{vec_capacity}
use Rattle.commonware_base.specs.laws.CallLaws.{CallsSoFar}
use Rattle.commonware_map.specs.ValueCalls.{CalledAtPair}
use Rattle.commonware_map.proofs.Walked.{IsCounted, pairs_left}
use Rattle.commonware_map.proofs.values.called_values.Given as goal

abbrev pub invariant-loop-key : goal.invariant-loop-key
invariant-loop-key g l = record {
  room : vec_len l.called + length (pairs_left l.key-iterator) ≤ vec_capacity l.called;
  calls : CallsSoFar (CalledAtPair g.F.FnMut) l.fn.f (zip l.fn.keys l.fn.values.items) l.called.items l.f (pairs_left l.key-iterator);
  counted : IsCounted l.key-iterator;
}
