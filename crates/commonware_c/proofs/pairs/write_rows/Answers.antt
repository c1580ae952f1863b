use Rattle.std.proofs.Common.{◌∙◌, arith, map, refl, sym}
use Rattle.std.proofs.lemmas.List.{length-map}
use Rattle.commonware_c.specs.Pairs.{pair_of}
use Rattle.commonware_c.proofs.RowsInOrder.{own_map}
use Rattle.commonware_c.proofs.pairs.write_rows.Goals as goal

pub returns-then-are_in_key_order-clause-long : goal.returns-then-are_in_key_order-clause-long
returns-then-are_in_key_order-clause-long c = λ e.
    let ks = c.args.key_size in
    let rows = c.args.rows.now in
    let said = c.write_rows_in_order.ensures.long e in
    let many = length-map rows (pair_of ks) in
    (map (pair_of ks) rows, own_map ks rows (c.if-are_in_key_order.ensures.0 refl), said.0 ∙ sym many, omega (arith, said.1, many))
