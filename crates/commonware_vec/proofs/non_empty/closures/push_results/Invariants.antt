use Rattle.std.proofs.Common.{◌≡◌, ◌+◌, ◌≤◌, ◌++◌, List, replicate}
use Rattle.std.specs.Vec.{vec_capacity, vec_len}
use Rattle.commonware_base.specs.laws.CallLaws.{CallsSoFar}
use Rattle.commonware_vec.specs.Closures.{CalledWithNothing}
use Rattle.commonware_vec.proofs.non_empty.closures.push_results.Given as goal

abbrev pub invariant-loop-left : goal.invariant-loop-left
invariant-loop-left g l = record {
  room : vec_len l.items + l.left ≤ vec_capacity l.items;
  answers : List g.row.T.Denot;
  items : l.items.items ≡ l.fn.items.items ++ answers;
  calls : CallsSoFar (CalledWithNothing g.F.FnMut) l.fn.f (replicate l.fn.count tt) answers l.f (replicate l.left tt);
}

abbrev pub decreases-loop-left : goal.decreases-loop-left
decreases-loop-left g l = l.left
