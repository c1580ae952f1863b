use Rattle.std.proofs.Common.{List, subst, sym, ◌∙◌}
use Rattle.std.specs.List.{zip}
use Rattle.commonware_base.specs.Taken.{TakesAll}
use Rattle.commonware_ordered.specs.Dedup.{IsDedup}
use Rattle.commonware_map.proofs.map.Map.from_iter_dedup.Goals as goal

pub returns-clause-dedup : goal.returns-clause-dedup
returns-clause-dedup g c =
    let pairs = c.from_columns.ensures ∙ (λ j. zip (c.from_strict.ensures j) c.in_ok-keys.values.items) in
    subst (λ m. TakesAll g.I.IntoIterator.into_iter_gives g.I.IntoIter.Iterator.next_gives c.args.iter (IsDedupOf m)) (sym pairs) c.in_ok-keys.ensures.dedup
  where
    IsDedupOf : List (g.row.K.Denot × g.row.V.Denot) → List (g.row.K.Denot × g.row.V.Denot) → Type 0
    IsDedupOf m ps = IsDedup (λ p q. g.K.PartialEq.eq p.0 q.0) (λ p q. g.K.Ord.cmp p.0 q.0) ps m
