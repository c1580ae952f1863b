use Rattle.std.proofs.Common.{◌≡◌, ◌∙◌, ◌+◌, ◌*◌, ◌≤◌, ℕ, List, [], length, map, drop, take, arith, sym}
use Rattle.std.specs.List.{flat_map}
use Rattle.std.proofs.lemmas.List.{length-map}
use Rattle.commonware_base.specs.Varint.{varint}
use Rattle.commonware_base.specs.laws.VarintLaws.{varint-length}
use Rattle.commonware_c.specs.Pairs.{pair_of}
use Rattle.commonware_c.proofs.Columns.{columns_fit, is_map_of, map_put, place_for_keys, place_for_values}
use Rattle.commonware_c.proofs.RowsInOrder.{have_parts, keys_flat, own_map, values_flat}
use Rattle.commonware_c.proofs.rows_in_order.write_rows_in_order.Goals as goal

-- as many pairs as rows
number : (ks : ℕ) (rows : List (List ℕ)) (count : ℕ) → count ≡ length rows → count ≡ length (map (pair_of ks) rows)
number ks rows count same = same ∙ sym (length-map rows (pair_of ks))

pub encode_size-requires-clause-fits : goal.encode_size-requires-clause-fits
encode_size-requires-clause-fits c = omega (arith, varint-length c.len-count.result (omega (arith, c.if-count.false)))

pub overflow_mul-keys_end : goal.overflow_mul-keys_end
overflow_mul-keys_end c =
    omega (arith, columns_fit c.args.key_size c.args.value_size c.len-count.result c.args.rows.now (map (pair_of c.args.key_size) c.args.rows.now) c.requires.long (own_map c.args.key_size c.args.rows.now c.requires.strict) (number c.args.key_size c.args.rows.now c.len-count.result c.len-count.ensures) c.as_bytes.result.now c.as_bytes.ensures c.as_bytes.type_inv.1)

pub overflow_add-keys_end : goal.overflow_add-keys_end
overflow_add-keys_end c =
    omega (
      arith,
      c.encode_size.ensures,
      varint-length c.len-count.result (omega (arith, c.if-count.false)),
      columns_fit c.args.key_size c.args.value_size c.len-count.result c.args.rows.now (map (pair_of c.args.key_size) c.args.rows.now) c.requires.long (own_map c.args.key_size c.args.rows.now c.requires.strict) (number c.args.key_size c.args.rows.now c.len-count.result c.len-count.ensures) c.as_bytes.result.now c.as_bytes.ensures c.as_bytes.type_inv.1,
    )

pub overflow_mul-view : goal.overflow_mul-view
overflow_mul-view c =
    omega (arith, columns_fit c.args.key_size c.args.value_size c.len-count.result c.args.rows.now (map (pair_of c.args.key_size) c.args.rows.now) c.requires.long (own_map c.args.key_size c.args.rows.now c.requires.strict) (number c.args.key_size c.args.rows.now c.len-count.result c.len-count.ensures) c.as_bytes.result.now c.as_bytes.ensures c.as_bytes.type_inv.1)

pub overflow_add-view : goal.overflow_add-view
overflow_add-view c =
    omega (
      arith,
      c.encode_size-2.ensures,
      varint-length c.len-count.result (omega (arith, c.if-count.false)),
      columns_fit c.args.key_size c.args.value_size c.len-count.result c.args.rows.now (map (pair_of c.args.key_size) c.args.rows.now) c.requires.long (own_map c.args.key_size c.args.rows.now c.requires.strict) (number c.args.key_size c.args.rows.now c.len-count.result c.len-count.ensures) c.as_bytes.result.now c.as_bytes.ensures c.as_bytes.type_inv.1,
    )

pub overflow_add-view-2 : goal.overflow_add-view-2
overflow_add-view-2 c =
    omega (
      arith,
      c.encode_size.ensures,
      c.encode_size-2.ensures,
      varint-length c.len-count.result (omega (arith, c.if-count.false)),
      columns_fit c.args.key_size c.args.value_size c.len-count.result c.args.rows.now (map (pair_of c.args.key_size) c.args.rows.now) c.requires.long (own_map c.args.key_size c.args.rows.now c.requires.strict) (number c.args.key_size c.args.rows.now c.len-count.result c.len-count.ensures) c.as_bytes.result.now c.as_bytes.ensures c.as_bytes.type_inv.1,
    )

pub returns-then-out-view-clause-room : goal.returns-then-out-view-clause-room
returns-then-out-view-clause-room c = λ _. (
  is_map_of c.args.key_size c.args.value_size c.len-count.result c.args.rows.now (map (pair_of c.args.key_size) c.args.rows.now) c.requires.long (own_map c.args.key_size c.args.rows.now c.requires.strict) (number c.args.key_size c.args.rows.now c.len-count.result c.len-count.ensures)
      c.encode_size.result c.encode_size-2.result c.if-count.false c.encode_size.ensures c.encode_size-2.ensures,
  c.if-out-view.true,
)

pub put_parts-requires-clause-room : goal.put_parts-requires-clause-room
put_parts-requires-clause-room c =
    let count = c.len-count.result in
    let fits : length (varint count) + c.args.key_size * count + (length (varint count) + c.args.value_size * count) ≤ length c.args.out.now =
    omega (arith, c.if-out-view.false, c.encode_size.ensures, c.encode_size-2.ensures) in
    place_for_keys c.args.key_size c.args.value_size count c.args.rows.now (map (pair_of c.args.key_size) c.args.rows.now) c.requires.long (own_map c.args.key_size c.args.rows.now c.requires.strict) (number c.args.key_size c.args.rows.now count c.len-count.ensures)
    c.args.out.now c.put_varint-keys.new.out [] [] (flat_map (λ row. take c.args.key_size (drop 0 row)) c.args.rows.now) [] c.put_varint-keys.result 0 0
    fits (keys_flat c.args.key_size c.args.rows.now) c.put_varint-keys.ensures.place c.put_varint-keys.ensures.bytes

pub put_parts-requires-2-clause-room : goal.put_parts-requires-2-clause-room
put_parts-requires-2-clause-room c =
    let count = c.len-count.result in
    let fits : length (varint count) + c.args.key_size * count + (length (varint count) + c.args.value_size * count) ≤ length c.args.out.now =
    omega (arith, c.if-out-view.false, c.encode_size.ensures, c.encode_size-2.ensures) in
    place_for_values c.args.key_size c.args.value_size count c.args.rows.now (map (pair_of c.args.key_size) c.args.rows.now) c.requires.long (own_map c.args.key_size c.args.rows.now c.requires.strict) (number c.args.key_size c.args.rows.now count c.len-count.ensures)
    c.args.out.now c.put_varint-keys.new.out c.put_parts.new.out c.put_varint-values.new.out (flat_map (λ row. take c.args.key_size (drop 0 row)) c.args.rows.now) (flat_map (λ row. take c.args.value_size (drop c.args.key_size row)) c.args.rows.now)
    c.put_varint-keys.result (c.encode_size.result + c.args.key_size * count) c.put_varint-values.result
    fits (keys_flat c.args.key_size c.args.rows.now) c.put_varint-keys.ensures.place c.put_varint-keys.ensures.bytes
    c.put_parts.ensures (omega (arith, c.encode_size.ensures)) c.put_varint-values.ensures.bytes (values_flat c.args.key_size c.args.value_size c.args.rows.now c.requires.long) c.put_varint-values.ensures.place

pub returns-clause-written : goal.returns-clause-written
returns-clause-written c = λ _.
    let count = c.len-count.result in
    let fits : length (varint count) + c.args.key_size * count + (length (varint count) + c.args.value_size * count) ≤ length c.args.out.now =
    omega (arith, c.if-out-view.false, c.encode_size.ensures, c.encode_size-2.ensures) in (
      is_map_of c.args.key_size c.args.value_size count c.args.rows.now (map (pair_of c.args.key_size) c.args.rows.now) c.requires.long (own_map c.args.key_size c.args.rows.now c.requires.strict) (number c.args.key_size c.args.rows.now count c.len-count.ensures)
          c.encode_size.result c.encode_size-2.result c.if-count.false c.encode_size.ensures c.encode_size-2.ensures,
      map_put c.args.key_size c.args.value_size count c.args.rows.now (map (pair_of c.args.key_size) c.args.rows.now) c.requires.long (own_map c.args.key_size c.args.rows.now c.requires.strict) (number c.args.key_size c.args.rows.now count c.len-count.ensures)
          c.args.out.now c.put_varint-keys.new.out c.put_parts.new.out c.put_varint-values.new.out (flat_map (λ row. take c.args.key_size (drop 0 row)) c.args.rows.now) (flat_map (λ row. take c.args.value_size (drop c.args.key_size row)) c.args.rows.now)
          c.put_varint-keys.result (c.encode_size.result + c.args.key_size * count) c.put_varint-values.result
          fits (keys_flat c.args.key_size c.args.rows.now) c.put_varint-keys.ensures.place c.put_varint-keys.ensures.bytes
          c.put_parts.ensures (omega (arith, c.encode_size.ensures)) c.put_varint-values.ensures.bytes (values_flat c.args.key_size c.args.value_size c.args.rows.now c.requires.long) c.put_varint-values.ensures.place
          c.put_parts-2.new.out c.put_parts-2.ensures,
    )

pub put_parts-requires-clause-each : goal.put_parts-requires-clause-each
put_parts-requires-clause-each c = have_parts (0 + c.args.key_size) (c.args.key_size + c.args.value_size) c.args.rows.now (omega arith) c.requires.long

pub put_parts-requires-2-clause-each : goal.put_parts-requires-2-clause-each
put_parts-requires-2-clause-each c = have_parts (c.args.key_size + c.args.value_size) (c.args.key_size + c.args.value_size) c.args.rows.now (omega arith) c.requires.long
