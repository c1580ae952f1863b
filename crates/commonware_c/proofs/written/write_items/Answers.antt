use Rattle.std.proofs.Common.{◌≡◌, ◌∙◌, ◌+◌, ◌*◌, ◌<◌, ◌≤◌, ◌^◌, ◌++◌, ℕ, Bor, List, length, map, arith, ap, nat_eq, refl, sym}
use Rattle.std.specs.List.{flat_map}
use Rattle.std.specs.Cmp.Lexicographic.{pointwise}
use Rattle.std.proofs.Math.Nat.{mul_comm}
use Rattle.std.proofs.lemmas.List.{length-append, length-map}
use Rattle.std.proofs.lemmas.Nat.{mul-le}
use Rattle.commonware_base.specs.Varint.{varint}
use Rattle.commonware_base.specs.laws.VarintLaws.{varint-length}
use Rattle.commonware_ordered.specs.Dedup.{IsDedup}
use Rattle.commonware_sequence.specs.FixedBytes.{bytes_cmp, own_bytes}
use Rattle.commonware_views.specs.Lists.{AreItemsOf}
use Rattle.commonware_views.specs.laws.ItemLaws.{AreLong, items_length}
use Rattle.commonware_c.specs.Committees.{IsSetOf}
use Rattle.commonware_c.specs.Splices.{spliced}
use Rattle.commonware_c.proofs.Made.{dedup_lengths, own_dedup, set_not_longer}
use Rattle.commonware_c.proofs.Spliced.{length_on, spliced_on}
use Rattle.commonware_c.proofs.Values.{flat_values}
use Rattle.commonware_c.proofs.written.write_items.Goals as goal

-- what the references refer to
abbrev values : List (Bor (List ℕ)) → List (List ℕ)
values set = map (λ k. k.now) set

-- the bytes of the set, as many as its items times their size
set_bytes : (size : ℕ) (keys : List ℕ) (items : List (List ℕ)) (set : List (Bor (List ℕ))) → AreItemsOf size keys items
    → IsDedup (pointwise nat_eq) bytes_cmp items (values set) → length (flat_map (λ k. k.now) set) ≡ length set * size
set_bytes size keys items set are dedup =
    ap length (flat_values set) ∙ items_length size (values set) (dedup_lengths size (pointwise nat_eq) bytes_cmp items (values set) are.each dedup)
    ∙ ap (λ n. n * size) (length-map set (λ k. k.now))

-- which are no more than the keys
bytes_fit : (size : ℕ) (keys : List ℕ) (items : List (List ℕ)) (set : List (Bor (List ℕ))) → AreItemsOf size keys items
    → IsDedup (pointwise nat_eq) bytes_cmp items (values set) → size * length set ≤ length keys
bytes_fit size keys items set are dedup =
    let fewer = set_not_longer items (values set) dedup in
    let number : length set ≤ length items = omega (arith, fewer, length-map set (λ k. k.now)) in
    omega (arith, mul-le (length set) size (length items) size number (omega arith), mul_comm size (length set), items_length size items are.each, ap length are.together)

-- the number of its items, and of its bytes
is_set : (size : ℕ) (keys : List ℕ) (items : List (List ℕ)) (set : List (Bor (List ℕ))) (count front : ℕ) → AreItemsOf size keys items
    → IsDedup (pointwise nat_eq) bytes_cmp items (values set) → count < 2 ^ 32 → count ≡ length set
    → front ≡ length (varint count) → IsSetOf size items (values set) count (front + size * count)
is_set size keys items set count front are dedup short same number_at =
    let number : count ≡ length (values set) = same ∙ sym (length-map set (λ k. k.now)) in
    let long = length-append (varint (length (values set))) (flat_map own_bytes (values set)) in
    let flat : length (flat_map own_bytes (values set)) ≡ size * count =
    ap length (sym (flat_values set)) ∙ set_bytes size keys items set are dedup ∙ ap (λ n. n * size) (sym same) ∙ mul_comm count size in
    record {
      dedup = dedup;
      count_is = number;
      count_most = omega (arith, number, set_not_longer items (values set) dedup);
      count_short = short;
      bytes_is = omega (arith, number_at, ap (λ n. length (varint n)) number, flat, long);
      bytes_most = omega (arith, number_at, varint-length count short);
    }

-- the items are their bytes, one after another
are_items : (size : ℕ) (items : List (List ℕ)) (bytes : List ℕ) → AreLong size items → bytes ≡ flat_map own_bytes items → AreItemsOf size bytes items
are_items size items bytes long same = record { each = long; together = sym same }

pub encode_size-requires-clause-fits : goal.encode_size-requires-clause-fits
encode_size-requires-clause-fits c = omega (arith, varint-length c.len-count.result (omega (arith, c.if-count.false)))

pub overflow_mul-view : goal.overflow_mul-view
overflow_mul-view c =
    omega (arith, bytes_fit c.args.size c.as_bytes.result.now c.args.items.now c.in-Ok.set (are_items c.args.size c.args.items.now c.as_bytes.result.now c.requires c.as_bytes.ensures) c.in-Ok.ensures.set, ap (λ n. c.args.size * n) c.len-count.ensures, c.as_bytes.type_inv.0)

pub overflow_add-view : goal.overflow_add-view
overflow_add-view c =
    omega (
      arith,
      bytes_fit c.args.size c.as_bytes.result.now c.args.items.now c.in-Ok.set (are_items c.args.size c.args.items.now c.as_bytes.result.now c.requires c.as_bytes.ensures) c.in-Ok.ensures.set,
      ap (λ n. c.args.size * n) c.len-count.ensures,
      c.as_bytes.type_inv.1,
      c.encode_size.ensures,
      varint-length c.len-count.result (omega (arith, c.if-count.false)),
    )

pub returns-then-out-view-clause-room : goal.returns-then-out-view-clause-room
returns-then-out-view-clause-room c = λ _. (
  values c.in-Ok.set,
  is_set c.args.size c.as_bytes.result.now c.args.items.now c.in-Ok.set c.len-count.result c.encode_size.result (are_items c.args.size c.args.items.now c.as_bytes.result.now c.requires c.as_bytes.ensures) c.in-Ok.ensures.set
      (omega (arith, c.if-count.false)) c.len-count.ensures c.encode_size.ensures,
  c.if-out-view.true,
)

pub put_items-requires : goal.put_items-requires
put_items-requires c =
    let set = c.in-Ok.set in
    let count = c.len-count.result in
    let fits : 0 + length (varint count) ≤ length c.args.out.now = omega (arith, c.if-out-view.false, c.encode_size.ensures) in
    let bytes = set_bytes c.args.size c.as_bytes.result.now c.args.items.now set (are_items c.args.size c.args.items.now c.as_bytes.result.now c.requires c.as_bytes.ensures) c.in-Ok.ensures.set in
    omega (
      arith,
      c.put_varint-start.ensures.place,
      c.encode_size.ensures,
      c.if-out-view.false,
      ap (λ xs. length (flat_map (λ k. k.now) xs)) c.as_slice.ensures.items,
      bytes,
      ap (λ n. n * c.args.size) c.len-count.ensures,
      mul_comm c.args.size count,
      length_on 0 (varint count) c.put_varint-start.new.out c.args.out.now fits c.put_varint-start.ensures.bytes,
    )

pub returns-clause-written : goal.returns-clause-written
returns-clause-written c = λ _.
    let set = c.in-Ok.set in
    let count = c.len-count.result in
    let room = c.args.out.now in
    let number : count ≡ length (values set) = c.len-count.ensures ∙ sym (length-map set (λ k. k.now)) in
    let fits : 0 + length (varint count) ≤ length room = omega (arith, c.if-out-view.false, c.encode_size.ensures) in (
      values set,
      is_set c.args.size c.as_bytes.result.now c.args.items.now set count c.encode_size.result (are_items c.args.size c.args.items.now c.as_bytes.result.now c.requires c.as_bytes.ensures) c.in-Ok.ensures.set
          (omega (arith, c.if-count.false)) c.len-count.ensures c.encode_size.ensures,
      c.put_items.ensures ∙ ap (λ xs. spliced c.put_varint-start.result (flat_map (λ k. k.now) xs) c.put_varint-start.new.out) c.as_slice.ensures.items
          ∙ ap (λ t. spliced c.put_varint-start.result t c.put_varint-start.new.out) (flat_values set)
          ∙ spliced_on 0 c.put_varint-start.result (varint count) (flat_map own_bytes (values set)) c.put_varint-start.new.out room fits c.put_varint-start.ensures.place c.put_varint-start.ensures.bytes
          ∙ ap (λ n. spliced 0 (varint n ++ flat_map own_bytes (values set)) room) number,
    )

pub returns-then-are_in_order-clause-written : goal.returns-then-are_in_order-clause-written
returns-then-are_in_order-clause-written c = λ e. let said = c.write_in_order.ensures.written e in (c.args.items.now, said.0, said.1)

pub returns-then-are_in_order-clause-room : goal.returns-then-are_in_order-clause-room
returns-then-are_in_order-clause-room c = λ e. let said = c.write_in_order.ensures.room e in (c.args.items.now, said.0, said.1)

pub returns-then-are_in_order-clause-long : goal.returns-then-are_in_order-clause-long
returns-then-are_in_order-clause-long c = λ e.
    let said = c.write_in_order.ensures.long e in (c.args.items.now, own_dedup c.args.items.now (c.if-are_in_order.ensures.0 refl), said.0, said.1)
