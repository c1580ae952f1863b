use Rattle.std.proofs.Common.{◌≡◌, ◌∙◌, ◌≤◌, ◌^◌, length, map, arith, ap, refl, sym, subst, inl, inr, Bor, List, ℕ}
use Rattle.std.specs.Prelude.{MatchResult, Result}
use Rattle.std.proofs.lemmas.List.{length-map}
use Rattle.commonware_c.specs.Pairs.{AreAllPairs, IsFirstRepeatedKey, pair_of, referred}
use Rattle.commonware_c.proofs.Repeats.{as_many, each_first, map_of_all}
use Rattle.commonware_c.proofs.RowsInOrder.{all_in_order}
use Rattle.commonware_c.proofs.unique.write_all_rows.Goals as goal

-- what is made of the rows
abbrev IsMade : ℕ → List (List ℕ) → Result (List (Bor (List ℕ) × Bor (List ℕ))) ℕ → Type 0
IsMade ks rows made = MatchResult made (λ pairs. AreAllPairs ks rows (referred pairs)) (IsFirstRepeatedKey ks rows)

pub write_map-requires-clause-firsts : goal.write_map-requires-clause-firsts
write_map-requires-clause-firsts c = each_first c.args.key_size c.args.rows.now (referred c.in-Ok-Ok.map) (subst (IsMade c.args.key_size c.args.rows.now) c.in-Ok-Ok.field-0-is c.in-Ok-Ok.ensures.made)

pub returns-in-Ok-Ok-clause-written : goal.returns-in-Ok-Ok-clause-written
returns-in-Ok-Ok-clause-written c = λ ok.
    let said = c.write_map.ensures.written ok in
    (referred c.in-Ok-Ok.map, map_of_all c.args.key_size c.args.rows.now (referred c.in-Ok-Ok.map) (subst (IsMade c.args.key_size c.args.rows.now) c.in-Ok-Ok.field-0-is c.in-Ok-Ok.ensures.made) c.args.value_size _ _ said.0, said.1)

pub returns-in-Ok-Ok-clause-room : goal.returns-in-Ok-Ok-clause-room
returns-in-Ok-Ok-clause-room c = λ short.
    let said = c.write_map.ensures.room short in
    (referred c.in-Ok-Ok.map, map_of_all c.args.key_size c.args.rows.now (referred c.in-Ok-Ok.map) (subst (IsMade c.args.key_size c.args.rows.now) c.in-Ok-Ok.field-0-is c.in-Ok-Ok.ensures.made) c.args.value_size _ _ said.0, said.1)

pub returns-in-Ok-Ok-clause-long : goal.returns-in-Ok-Ok-clause-long
returns-in-Ok-Ok-clause-long c = λ long.
    let said = c.write_map.ensures.long long in
    let many : length c.in-Ok-Ok.map ≡ length c.args.rows.now =
    sym (length-map c.in-Ok-Ok.map _) ∙ as_many c.args.key_size c.args.rows.now (referred c.in-Ok-Ok.map) (subst (IsMade c.args.key_size c.args.rows.now) c.in-Ok-Ok.field-0-is c.in-Ok-Ok.ensures.made) in
    (referred c.in-Ok-Ok.map, subst (IsMade c.args.key_size c.args.rows.now) c.in-Ok-Ok.field-0-is c.in-Ok-Ok.ensures.made, said.0 ∙ many, subst (λ n. 2 ^ 32 ≤ n) many said.1)

pub returns-in-Ok-Ok-clause-exactly : goal.returns-in-Ok-Ok-clause-exactly
returns-in-Ok-Ok-clause-exactly c = λ _. (
  λ same. absurd (elim c.write_map.ensures.status [
    | inl e ↦ omega (arith, same, e)
    | inr (inl e) ↦ omega (arith, same, e)
    | inr (inr e) ↦ omega (arith, same, e)
  ]),
  λ again. absurd ((subst (IsMade c.args.key_size c.args.rows.now) c.in-Ok-Ok.field-0-is c.in-Ok-Ok.ensures.made).distinct again.0 again.1),
)

pub returns-in-Ok-Err-clause-repeated : goal.returns-in-Ok-Err-clause-repeated
returns-in-Ok-Err-clause-repeated c = λ _. subst (IsFirstRepeatedKey c.args.key_size c.args.rows.now) (sym (ap (λ v. v.number) c.refused.ensures)) (subst (IsMade c.args.key_size c.args.rows.now) c.in-Ok-Err.field-0-is c.in-Ok-Err.ensures.made)

pub returns-then-are_in_key_order-clause-written : goal.returns-then-are_in_key_order-clause-written
returns-then-are_in_key_order-clause-written c = λ ok.
    let ks = c.args.key_size in
    let rows = c.args.rows.now in
    let said = c.write_rows_in_order.ensures.written ok in
    (map (pair_of ks) rows, map_of_all ks rows (map (pair_of ks) rows) (all_in_order ks rows (c.if-are_in_key_order.ensures.0 refl)) c.args.value_size _ _ said.0, said.1)

pub returns-then-are_in_key_order-clause-room : goal.returns-then-are_in_key_order-clause-room
returns-then-are_in_key_order-clause-room c = λ short.
    let ks = c.args.key_size in
    let rows = c.args.rows.now in
    let said = c.write_rows_in_order.ensures.room short in
    (map (pair_of ks) rows, map_of_all ks rows (map (pair_of ks) rows) (all_in_order ks rows (c.if-are_in_key_order.ensures.0 refl)) c.args.value_size _ _ said.0, said.1)

pub returns-then-are_in_key_order-clause-long : goal.returns-then-are_in_key_order-clause-long
returns-then-are_in_key_order-clause-long c = λ long.
    let ks = c.args.key_size in
    let rows = c.args.rows.now in
    let said = c.write_rows_in_order.ensures.long long in
    (map (pair_of ks) rows, all_in_order ks rows (c.if-are_in_key_order.ensures.0 refl), said.0, said.1)

pub returns-then-are_in_key_order-clause-exactly : goal.returns-then-are_in_key_order-clause-exactly
returns-then-are_in_key_order-clause-exactly c = λ _. (
  λ same. absurd (elim c.write_rows_in_order.ensures.status [
    | inl e ↦ omega (arith, same, e)
    | inr (inl e) ↦ omega (arith, same, e)
    | inr (inr e) ↦ omega (arith, same, e)
  ]),
  λ again. absurd ((all_in_order c.args.key_size c.args.rows.now (c.if-are_in_key_order.ensures.0 refl)).distinct again.0 again.1),
)
