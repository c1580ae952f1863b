use Rattle.std.proofs.Common.{rules, arith, ◌≡◌, ◌∙◌, Bool, true, false, cond, refl, sym, subst, take, ◌||◌, Bor}
use Rattle.std.proofs.Math.Seq.{take_all}
use Rattle.std.specs.List.{list_any}
use Rattle.std.proofs.lemmas.Grind.{common_steps}
use Rattle.std.proofs.lemmas.List.{take_more}
use Rattle.std.proofs.lemmas.List.Folds.{list_any-append}
use Rattle.commonware_ordered.specs.Whole.{HasEqualItems}
use Rattle.commonware_map.proofs.NoneEqual.{equal_items_found, none_equal_more}
use Rattle.commonware_map.proofs.distinct.has_equal_values.Goals as goal

cond-or : (a b : Bool) → cond b true a ≡ (a || (b || false))
cond-or true true = refl
cond-or true false = refl
cond-or false true = refl
cond-or false false = refl

pub returns-then-not-branch-clause-found : goal.returns-then-not-branch-clause-found
returns-then-not-branch-clause-found g c =
    let inv = c.loop-value.invariant in
    let e = c.in_ok-insert.ensures in
    let x = c.value-item.result in
    let has : list_any (λ y. g.V.PartialEq.eq y x) (take c.loop-value.value-index c.args.values.now) ≡ true = grind (arith, common_steps, inv.1 x, e.added, c.if-not-branch.true) in
    (λ _. equal_items_found g.V.PartialEq.eq c.args.values.now c.loop-value.value-index x (search rules) (search rules) has, λ _. refl)

pub loop-value-preserved : goal.loop-value-preserved
loop-value-preserved g c =
    let inv = c.loop-value.invariant in
    let e = c.in_ok-insert.ensures in
    let x = c.value-item.result in
    let apart : list_any (λ y. g.V.PartialEq.eq y x) (take c.loop-value.value-index c.args.values.now) ≡ false = grind (arith, common_steps, inv.1 x, e.added, c.if-not-branch.false) in (
      none_equal_more g.V.PartialEq.eq c.args.values.now c.loop-value.value-index x (search rules) (search rules) inv.0 apart,
      λ q. let b : Bor g.row.V.Denot = record { ref_ptr = c.args.values.ref_ptr; now = q } in
          e.updates.0 b ∙ rw (inv.1 q, take_more c.args.values.now c.loop-value.value-index x (search rules), list_any-append) (grind (arith, common_steps, cond-or, c.value-item.is)),
    )

pub returns-clause-found : goal.returns-clause-found
returns-clause-found g c = (
  λ never. cc,
  λ twice. absurd (c.loop-value.invariant.0 (subst (HasEqualItems g.V.PartialEq.eq) (sym (take_all c.loop-value.value-index c.args.values.now (search rules))) twice)),
)

pub loop-value-init : goal.loop-value-init
loop-value-init g c = grind (arith, common_steps)
