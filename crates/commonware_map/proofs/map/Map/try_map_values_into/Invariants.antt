use Rattle.std.proofs.Common.{length, ◌+◌, ◌≤◌, vec_len}
use Rattle.std.specs.Vec.{vec_capacity}
use Rattle.commonware_base.specs.laws.CallLaws.{CallsSoFar}
use Rattle.commonware_map.specs.ValueMaps.{CalledAtPair, Succeeds}
use Rattle.commonware_map.proofs.Walked.{IsCounted, pairs_left}
use Rattle.commonware_map.proofs.map.Map.try_map_values_into.Given as goal

abbrev pub invariant-loop-key : goal.invariant-loop-key
invariant-loop-key g l = record {
  room : vec_len l.collected + length (pairs_left l.key-iterator) ≤ vec_capacity l.collected;
  calls : CallsSoFar (Succeeds (CalledAtPair g.F.FnMut)) l.fn.f l.fn.self l.collected.items l.f (pairs_left l.key-iterator);
  counted : IsCounted l.key-iterator;
}
