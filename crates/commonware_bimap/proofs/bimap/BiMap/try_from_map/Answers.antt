use Rattle.std.proofs.Common.{◌≡◌, ◌∙◌, ap, false, refl, subst, sym, true}
use Rattle.std.specs.Map.{values_of}
use Rattle.commonware_bimap.proofs.Refused.{memory_checked, some_unless_none}
use mathlib.Core.Bool.{true≢false}
use Rattle.commonware_ordered.specs.Whole.{HasEqualItems}
use Rattle.commonware_bimap.proofs.bimap.BiMap.try_from_map.Goals as goal

pub returns-then-branch-clause-whole : goal.returns-then-branch-clause-whole
returns-then-branch-clause-whole g c = subst (HasEqualItems g.V.PartialEq.eq) c.values.ensures (c.in_ok-has_equal_values.ensures.found.0 c.if-branch.true)

pub returns-else-branch-clause-whole : goal.returns-else-branch-clause-whole
returns-else-branch-clause-whole g c =
    (refl, λ twice. true≢false (sym (c.in_ok-has_equal_values.ensures.found.1 (subst (HasEqualItems g.V.PartialEq.eq) (sym c.values.ensures) twice)) ∙ c.if-branch.false))

pub returns-in_err-has_equal_values-clause-whole : goal.returns-in_err-has_equal_values-clause-whole
returns-in_err-has_equal_values-clause-whole g c =
    let some = some_unless_none c.args.map (λ none. let never : false ≡ true = c.in_err-has_equal_values.ensures.empty (c.values.ensures ∙ ap values_of none) in true≢false (sym never)) in
    memory_checked g.K.PartialEq.eq g.K.Ord.cmp g.V.PartialEq.eq g.met.V.Eq.laws c.args.map c.from_residual.result some c.from_residual.ensures.1
