use Rattle.std.specs.List.{zip}
use Rattle.commonware_ordered.proofs.Zipped.{LeftOf}
use Rattle.judge_verdicts.proofs.columns.pairs_of.Given as goal

-- the pairs so far, and then those that are left
abbrev pub invariant-loop-key : goal.invariant-loop-key
invariant-loop-key g l = LeftOf (zip l.fn.keys.items l.fn.values.items) l.pairs.items l.key-iterator
