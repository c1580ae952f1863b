use Rattle.commonware_map.proofs.Zipped.{LeftOf}
use Rattle.commonware_map.proofs.map.Map.into_pairs.Given as goal

abbrev pub invariant-loop-pair : goal.invariant-loop-pair
invariant-loop-pair g l = LeftOf l.fn.self l.pairs.items l.pair-iterator
