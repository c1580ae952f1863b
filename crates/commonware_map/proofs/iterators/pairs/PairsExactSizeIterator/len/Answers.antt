use Rattle.std.proofs.Common.{length, sym, ap, ◌∙◌}
use Rattle.commonware_map.proofs.Stepped.{length_pairs}
use Rattle.commonware_map.proofs.iterators.pairs.PairsExactSizeIterator.len.Goals as goal

pub returns-clause-value : goal.returns-clause-value
returns-clause-value g c = c.len.ensures.value ∙ sym (length_pairs _ _ c.self.invariant) ∙ ap length c.self.view_is
