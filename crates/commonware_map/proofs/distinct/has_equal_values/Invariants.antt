use Rattle.std.proofs.Common.{◌≡◌, take}
use Rattle.std.specs.List.{list_any}
use Rattle.commonware_ordered.specs.Whole.{HasEqualItems}
use Rattle.commonware_map.proofs.distinct.has_equal_values.Given as goal

-- no two of the values that were passed are equal, and a value is seen where it equals one of them
abbrev pub invariant-loop-value : goal.invariant-loop-value
invariant-loop-value g l = (¬ HasEqualItems g.V.PartialEq.eq (take l.value-index l.values)) × ((q : g.row.V.Denot) → list_any (λ k. g.V.PartialEq.eq q k.now) l.seen.keys ≡ list_any (λ y. g.V.PartialEq.eq y q) (take l.value-index l.values))
