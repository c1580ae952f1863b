use Rattle.std.proofs.Common.{◌≡◌, ℕ, ◌++◌, List}
use Rattle.commonware_base.specs.laws.VarintLaws.{Goes}
use Rattle.commonware_base.proofs.codec.varint.push_varint.Given as goal

abbrev pub invariant-loop-left : goal.invariant-loop-left
invariant-loop-left g l = (sofar : List ℕ) × (l.sink.items ≡ l.fn.sink.items ++ sofar) × Goes l.number l.left sofar

abbrev pub decreases-loop-left : goal.decreases-loop-left
decreases-loop-left g l = l.left
