use Rattle.std.proofs.Common.{length, ◌+◌, ◌≤◌, vec_len}
use Rattle.std.specs.Vec.{vec_capacity}
use Rattle.commonware_base.specs.laws.CallLaws.{CallsSoFar}
use Rattle.commonware_map.specs.ValueMaps.{CalledAtRefs}
use Rattle.commonware_map.proofs.Calls.{IsReady}
use Rattle.commonware_map.proofs.map.Map.map_values.Given as goal

abbrev pub invariant-loop-key : goal.invariant-loop-key
invariant-loop-key g l = record {
  room : vec_len l.answers + length l.key-iterator ≤ vec_capacity l.answers;
  calls : CallsSoFar (CalledAtRefs g.F.FnMut) l.fn.f l.fn.self l.answers.items l.f l.key-iterator;
  ready : IsReady g.F.FnMut l.f l.key-iterator;
}
