use Rattle.std.proofs.Common.{◌≡◌, ℕ, ◌+◌, List, length}
use Rattle.commonware_base.specs.laws.VarintLaws.{Goes}
use Rattle.commonware_base.proofs.codec.varint.varint_size.Given as goal

abbrev pub invariant-loop-left : goal.invariant-loop-left
invariant-loop-left l = (sofar : List ℕ) × (l.size ≡ length sofar + 1) × Goes l.number l.left sofar

abbrev pub decreases-loop-left : goal.decreases-loop-left
decreases-loop-left l = l.left
