-- What decoding a list costs by the length that its input states.
use Rattle.std.specs.Prelude.{ℕ, List, length, ◌++◌}
use Rattle.std.specs.List.{flat_map}
use Rattle.std.specs.declared.cmp.Ordering.{Ordering}
use Rattle.std.proofs.Common.{inl, inr, sym, ◌∙◌, subst, arith, append_assoc}
use Rattle.commonware_base.specs.laws.VarintLaws.{varint_split}
use Rattle.commonware_base.specs.Varint.{varint}
use Rattle.commonware_ordered.specs.Costs.{IsOrderCost, IsReadCost, StatesLength}

-- the length that is stated is that of the list that was read
pub order_cost_stated : {T : Type 0} (enc : T → List ℕ) (cmp : T → T → Ordering) (text : List ℕ) (old new n : ℕ)
    → IsReadCost enc cmp text old new → StatesLength text n → IsOrderCost n old new
order_cost_stated enc cmp text old new n (inl same) states = omega (arith, same)
order_cost_stated enc cmp text old new n (inr w) states =
    let bytes = append_assoc (varint (length w.items)) (flat_map enc w.items) w.rest in
    let equal = varint_split (length w.items) n (flat_map enc w.items ++ w.rest) states.rest w.short states.short
    (sym bytes ∙ (sym w.begins ∙ states.begins)) in
    subst (λ m. IsOrderCost m old new) equal.0 w.most
