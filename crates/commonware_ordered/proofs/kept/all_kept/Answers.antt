use Rattle.std.proofs.Common.{refl, rules}
use Rattle.commonware_ordered.proofs.Halves.{strict_from_sorted}
use Rattle.commonware_ordered.proofs.InOrder.{strict_both}
use Rattle.std.proofs.Common.{arith}
use Rattle.std.proofs.lemmas.Grind.{common_steps}
use Rattle.commonware_ordered.proofs.kept.all_kept.Goals as goal

pub returns-then-is_empty-clause-strict : goal.returns-then-is_empty-clause-strict
returns-then-is_empty-clause-strict g c = strict_from_sorted g.T.Ord.cmp c.args.run.items c.args.run.items refl c.requires.strict

pub returns-clause-strict : goal.returns-clause-strict
returns-clause-strict g c = strict_both g.T.Ord.cmp c.args.run.items c.args.tree.keys c.loop-item.items.items (search rules) c.requires.apart c.requires.strict c.len.ensures.ordered

pub returns-then-is_empty-clause-items : goal.returns-then-is_empty-clause-items
returns-then-is_empty-clause-items g c = grind (arith, common_steps)

pub loop-item-preserved : goal.loop-item-preserved
loop-item-preserved g c = grind (arith, common_steps)
