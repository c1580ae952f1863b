use Rattle.std.proofs.Common.{◌≡◌, ◌∙◌, ◌+◌, ◌*◌, ◌≤◌, ℕ, Bor, List, [], ◌∷◌, length, map, arith, ap, refl, sym}
use Rattle.std.specs.List.{flat_map}
use Rattle.std.specs.Map.{keys_of, values_of}
use Rattle.std.proofs.lemmas.List.{length-map}
use Rattle.commonware_base.specs.Varint.{varint}
use Rattle.commonware_base.specs.laws.VarintLaws.{varint-length}
use Rattle.commonware_sequence.specs.FixedBytes.{own_bytes}
use Rattle.commonware_c.specs.Pairs.{referred}
use Rattle.commonware_c.proofs.Columns.{columns_fit, is_map_of, map_put, place_for_keys, place_for_values}
use Rattle.commonware_c.proofs.Values.{flat_values}
use Rattle.commonware_c.proofs.pairs.write_map.Goals as goal

-- the keys that references refer to, and the values
keys_referred : (pairs : List (Bor (List ℕ) × Bor (List ℕ))) → map (λ k. k.now) (keys_of pairs) ≡ keys_of (referred pairs)
keys_referred [] = refl
keys_referred (p ∷ pairs) = ap (λ ks. p.0.now ∷ ks) (keys_referred pairs)

values_referred : (pairs : List (Bor (List ℕ) × Bor (List ℕ))) → map (λ k. k.now) (values_of pairs) ≡ values_of (referred pairs)
values_referred [] = refl
values_referred (p ∷ pairs) = ap (λ vs. p.1.now ∷ vs) (values_referred pairs)

-- the bytes of the keys and of the values
key_column : (xs : List (Bor (List ℕ))) (pairs : List (Bor (List ℕ) × Bor (List ℕ))) → xs ≡ keys_of pairs
    → flat_map (λ k. k.now) xs ≡ flat_map own_bytes (keys_of (referred pairs))
key_column xs pairs same = ap (flat_map (λ k. k.now)) same ∙ flat_values (keys_of pairs) ∙ ap (flat_map own_bytes) (keys_referred pairs)

value_column : (xs : List (Bor (List ℕ))) (pairs : List (Bor (List ℕ) × Bor (List ℕ))) → xs ≡ values_of pairs
    → flat_map (λ k. k.now) xs ≡ flat_map own_bytes (values_of (referred pairs))
value_column xs pairs same = ap (flat_map (λ k. k.now)) same ∙ flat_values (values_of pairs) ∙ ap (flat_map own_bytes) (values_referred pairs)

-- as many pairs as references
number : (pairs : List (Bor (List ℕ) × Bor (List ℕ))) (count : ℕ) → count ≡ length pairs → count ≡ length (referred pairs)
number pairs count same = same ∙ sym (length-map pairs _)

pub encode_size-requires-clause-fits : goal.encode_size-requires-clause-fits
encode_size-requires-clause-fits c = omega (arith, varint-length c.len-count.result (omega (arith, c.if-count.false)))

pub overflow_mul-keys_end : goal.overflow_mul-keys_end
overflow_mul-keys_end c =
    omega (arith, columns_fit c.args.key_size c.args.value_size c.len-count.result c.args.rows.now (referred c.args.map.now) c.requires.long c.requires.firsts (number c.args.map.now c.len-count.result c.len-count.ensures.len) c.as_bytes.result.now c.as_bytes.ensures c.as_bytes.type_inv.1)

pub overflow_add-keys_end : goal.overflow_add-keys_end
overflow_add-keys_end c =
    omega (
      arith,
      c.encode_size.ensures,
      varint-length c.len-count.result (omega (arith, c.if-count.false)),
      columns_fit c.args.key_size c.args.value_size c.len-count.result c.args.rows.now (referred c.args.map.now) c.requires.long c.requires.firsts (number c.args.map.now c.len-count.result c.len-count.ensures.len) c.as_bytes.result.now c.as_bytes.ensures c.as_bytes.type_inv.1,
    )

pub overflow_mul-view : goal.overflow_mul-view
overflow_mul-view c =
    omega (arith, columns_fit c.args.key_size c.args.value_size c.len-count.result c.args.rows.now (referred c.args.map.now) c.requires.long c.requires.firsts (number c.args.map.now c.len-count.result c.len-count.ensures.len) c.as_bytes.result.now c.as_bytes.ensures c.as_bytes.type_inv.1)

pub overflow_add-view : goal.overflow_add-view
overflow_add-view c =
    omega (
      arith,
      c.encode_size-2.ensures,
      varint-length c.len-count.result (omega (arith, c.if-count.false)),
      columns_fit c.args.key_size c.args.value_size c.len-count.result c.args.rows.now (referred c.args.map.now) c.requires.long c.requires.firsts (number c.args.map.now c.len-count.result c.len-count.ensures.len) c.as_bytes.result.now c.as_bytes.ensures c.as_bytes.type_inv.1,
    )

pub overflow_add-view-2 : goal.overflow_add-view-2
overflow_add-view-2 c =
    omega (
      arith,
      c.encode_size.ensures,
      c.encode_size-2.ensures,
      varint-length c.len-count.result (omega (arith, c.if-count.false)),
      columns_fit c.args.key_size c.args.value_size c.len-count.result c.args.rows.now (referred c.args.map.now) c.requires.long c.requires.firsts (number c.args.map.now c.len-count.result c.len-count.ensures.len) c.as_bytes.result.now c.as_bytes.ensures c.as_bytes.type_inv.1,
    )

pub returns-then-out-view-clause-room : goal.returns-then-out-view-clause-room
returns-then-out-view-clause-room c = λ _. (
  is_map_of c.args.key_size c.args.value_size c.len-count.result c.args.rows.now (referred c.args.map.now) c.requires.long c.requires.firsts (number c.args.map.now c.len-count.result c.len-count.ensures.len)
      c.encode_size.result c.encode_size-2.result c.if-count.false c.encode_size.ensures c.encode_size-2.ensures,
  c.if-out-view.true,
)

pub put_items-requires : goal.put_items-requires
put_items-requires c =
    let count = c.len-count.result in
    let fits : length (varint count) + c.args.key_size * count + (length (varint count) + c.args.value_size * count) ≤ length c.args.out.now =
    omega (arith, c.if-out-view.false, c.encode_size.ensures, c.encode_size-2.ensures) in
    place_for_keys c.args.key_size c.args.value_size count c.args.rows.now (referred c.args.map.now) c.requires.long c.requires.firsts (number c.args.map.now count c.len-count.ensures.len)
    c.args.out.now c.put_varint-keys.new.out [] [] (flat_map (λ k. k.now) c.as_slice.result.now) [] c.put_varint-keys.result 0 0
    fits (key_column c.as_slice.result.now c.args.map.now (c.as_slice.ensures.items ∙ c.keys.ensures)) c.put_varint-keys.ensures.place c.put_varint-keys.ensures.bytes

pub put_items-requires-2 : goal.put_items-requires-2
put_items-requires-2 c =
    let count = c.len-count.result in
    let fits : length (varint count) + c.args.key_size * count + (length (varint count) + c.args.value_size * count) ≤ length c.args.out.now =
    omega (arith, c.if-out-view.false, c.encode_size.ensures, c.encode_size-2.ensures) in
    place_for_values c.args.key_size c.args.value_size count c.args.rows.now (referred c.args.map.now) c.requires.long c.requires.firsts (number c.args.map.now count c.len-count.ensures.len)
    c.args.out.now c.put_varint-keys.new.out c.put_items.new.out c.put_varint-values.new.out (flat_map (λ k. k.now) c.as_slice.result.now) (flat_map (λ k. k.now) c.values.result.now)
    c.put_varint-keys.result (c.encode_size.result + c.args.key_size * count) c.put_varint-values.result
    fits (key_column c.as_slice.result.now c.args.map.now (c.as_slice.ensures.items ∙ c.keys.ensures)) c.put_varint-keys.ensures.place c.put_varint-keys.ensures.bytes
    c.put_items.ensures (omega (arith, c.encode_size.ensures)) c.put_varint-values.ensures.bytes (value_column c.values.result.now c.args.map.now c.values.ensures) c.put_varint-values.ensures.place

pub returns-clause-written : goal.returns-clause-written
returns-clause-written c = λ _.
    let count = c.len-count.result in
    let fits : length (varint count) + c.args.key_size * count + (length (varint count) + c.args.value_size * count) ≤ length c.args.out.now =
    omega (arith, c.if-out-view.false, c.encode_size.ensures, c.encode_size-2.ensures) in (
      is_map_of c.args.key_size c.args.value_size count c.args.rows.now (referred c.args.map.now) c.requires.long c.requires.firsts (number c.args.map.now count c.len-count.ensures.len)
          c.encode_size.result c.encode_size-2.result c.if-count.false c.encode_size.ensures c.encode_size-2.ensures,
      map_put c.args.key_size c.args.value_size count c.args.rows.now (referred c.args.map.now) c.requires.long c.requires.firsts (number c.args.map.now count c.len-count.ensures.len)
          c.args.out.now c.put_varint-keys.new.out c.put_items.new.out c.put_varint-values.new.out (flat_map (λ k. k.now) c.as_slice.result.now) (flat_map (λ k. k.now) c.values.result.now)
          c.put_varint-keys.result (c.encode_size.result + c.args.key_size * count) c.put_varint-values.result
          fits (key_column c.as_slice.result.now c.args.map.now (c.as_slice.ensures.items ∙ c.keys.ensures)) c.put_varint-keys.ensures.place c.put_varint-keys.ensures.bytes
          c.put_items.ensures (omega (arith, c.encode_size.ensures)) c.put_varint-values.ensures.bytes (value_column c.values.result.now c.args.map.now c.values.ensures) c.put_varint-values.ensures.place
          c.put_items-2.new.out c.put_items-2.ensures,
    )
