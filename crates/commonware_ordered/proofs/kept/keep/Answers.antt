use Rattle.std.proofs.Common.{◌≡◌, refl, subst}
use Rattle.std.specs.List.{AllByRecursion}
use Rattle.std.specs.declared.cmp.Ordering.TheVariants.{Less}
use Rattle.commonware_ordered.proofs.InOrder.{kept_last, run_grows}
use Rattle.commonware_ordered.proofs.IncreasingKeys.{run_none}
use Rattle.std.proofs.Common.{arith}
use Rattle.std.proofs.lemmas.Grind.{common_steps}
use Rattle.commonware_ordered.proofs.kept.keep.Goals as goal

pub returns-in_ok-pushed-in-Less-clause-put : goal.returns-in_ok-pushed-in-Less-clause-put
returns-in_ok-pushed-in-Less-clause-put g c =
    let below = rw c.in-Less.is at c.last_to.ensures in
    kept_last g.met.T.Ord.total c.args.run.items c.args.tree.now.keys c.in_ok-pushed-in-Less.field-0.items c.args.item (c.if-not-is_empty.ensures.0 refl)
    (subst (AllByRecursion (λ y. g.T.Ord.cmp y c.args.item ≡ Less)) c.deref.ensures.value below) c.in_ok-pushed-in-Less.ensures

pub returns-in_ok-pushed-in-Less-clause-strict : goal.returns-in_ok-pushed-in-Less-clause-strict
returns-in_ok-pushed-in-Less-clause-strict g c =
    let below = rw c.in-Less.is at c.last_to.ensures in
    run_grows g.met.T.Ord.total c.args.run.items c.in_ok-pushed-in-Less.field-0.items c.args.item c.requires.strict
    (subst (AllByRecursion (λ y. g.T.Ord.cmp y c.args.item ≡ Less)) c.deref.ensures.value below) c.in_ok-pushed-in-Less.ensures

pub returns-in_ok-new-in-Greater-clause-strict : goal.returns-in_ok-new-in-Greater-clause-strict
returns-in_ok-new-in-Greater-clause-strict g c =
    (run_none g.met.T.Ord.total c.new-none.result.items c.new-none.result.items c.new-none.ensures.items c.new-none.ensures.items).1

pub move_into-requires-clause-empty : goal.move_into-requires-clause-empty
move_into-requires-clause-empty g c = grind (arith, common_steps)

pub returns-in_ok-pushed-in-Less-clause-apart : goal.returns-in_ok-pushed-in-Less-clause-apart
returns-in_ok-pushed-in-Less-clause-apart g c = grind (arith, common_steps)

pub returns-in_ok-new-in-Greater-clause-put : goal.returns-in_ok-new-in-Greater-clause-put
returns-in_ok-new-in-Greater-clause-put g c = grind (arith, common_steps)
