use Rattle.std.proofs.Common.{◌≡◌, ◌+◌, ℕ, List, length}
use Rattle.commonware_base.specs.laws.VarintLaws.{Goes}
use Rattle.commonware_c.specs.Splices.{spliced}
use Rattle.commonware_c.proofs.rooms.put_varint.Given as goal

abbrev pub invariant-loop-left : goal.invariant-loop-left
invariant-loop-left l =
    (sofar : List ℕ) × (l.next ≡ l.at + length sofar) × (l.out ≡ spliced l.at sofar l.fn.out) × Goes l.number l.left sofar

abbrev pub decreases-loop-left : goal.decreases-loop-left
decreases-loop-left l = l.left
