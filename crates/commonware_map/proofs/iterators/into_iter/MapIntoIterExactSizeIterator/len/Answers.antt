use Rattle.std.proofs.Common.{length, sym, ap, ◌∙◌}
use Rattle.commonware_map.proofs.Stepped.{length_pairs}
use Rattle.commonware_map.proofs.iterators.into_iter.MapIntoIterExactSizeIterator.len.Goals as goal

pub returns-clause-value : goal.returns-clause-value
returns-clause-value g c = c.len.ensures ∙ c.self.inside.keys.rest.ok.0 ∙ sym (length_pairs _ _ c.self.invariant) ∙ ap length c.self.view_is
