use Rattle.std.proofs.Common.{ap, ◌∙◌, ◌++◌, ◌∷◌, []}
use Rattle.commonware_ordered.proofs.IncreasingKeys.{run_more, run_pairs}
use Rattle.commonware_map.proofs.sorted_entries.run.Run.push.Goals as goal

pub invariant_of-self-2 : goal.invariant_of-self-2
invariant_of-self-2 g c =
    run_more g.met.K.Ord.total c.self.inside.keys.items _ c.self.inside.values.items _ c.args.self.now c.args.key c.args.value c.self.view_is c.self.invariant.0 c.self.invariant.1 c.requires
    (c.push_reserved.ensures.items ∙ ap (λ l. l ++ c.args.key ∷ []) c.reserve.ensures.items) (c.push_reserved-2.ensures.items ∙ ap (λ l. l ++ c.args.value ∷ []) c.reserve-2.ensures.items)

pub returns-clause-pushed : goal.returns-clause-pushed
returns-clause-pushed g c =
    run_pairs g.met.K.Ord.total c.self.inside.keys.items _ c.self.inside.values.items _ c.args.self.now c.args.key c.args.value c.self.view_is c.self.invariant.0 c.self.invariant.1 c.requires
    (c.push_reserved.ensures.items ∙ ap (λ l. l ++ c.args.key ∷ []) c.reserve.ensures.items) (c.push_reserved-2.ensures.items ∙ ap (λ l. l ++ c.args.value ∷ []) c.reserve-2.ensures.items)
