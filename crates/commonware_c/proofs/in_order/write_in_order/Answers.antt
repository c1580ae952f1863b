use Rattle.std.proofs.Common.{◌≡◌, ◌∙◌, ◌+◌, ◌*◌, ◌<◌, ◌≤◌, ◌^◌, ◌++◌, ℕ, List, length, arith, ap}
use Rattle.std.specs.List.{flat_map}
use Rattle.std.proofs.Math.Nat.{mul_comm}
use Rattle.std.proofs.lemmas.List.{length-append}
use Rattle.commonware_base.specs.Varint.{varint}
use Rattle.commonware_base.specs.laws.VarintLaws.{varint-length}
use Rattle.commonware_ordered.specs.Strict.{IsStrict}
use Rattle.commonware_sequence.specs.FixedBytes.{bytes_cmp, own_bytes}
use Rattle.commonware_views.specs.laws.ItemLaws.{AreLong, items_length}
use Rattle.commonware_c.specs.Committees.{IsSetOf}
use Rattle.commonware_c.specs.Splices.{spliced}
use Rattle.commonware_c.proofs.Made.{own_dedup}
use Rattle.commonware_c.proofs.Spliced.{spliced_on}
use Rattle.commonware_c.proofs.in_order.write_in_order.Goals as goal

-- the number of the items, and of their bytes
own_set : (size count front : ℕ) (items : List (List ℕ)) (bytes : List ℕ) → AreLong size items → IsStrict bytes_cmp items → bytes ≡ flat_map own_bytes items
    → count < 2 ^ 32 → count ≡ length items → front ≡ length (varint count) → IsSetOf size items items count (front + length bytes)
own_set size count front items bytes long strict are short same number_at = record {
  dedup = own_dedup items strict;
  count_is = same;
  count_most = omega (arith, same);
  count_short = short;
  bytes_is = omega (arith, ap length are, number_at, ap (λ n. length (varint n)) same, length-append (varint (length items)) (flat_map own_bytes items));
  bytes_most = omega (arith, ap length are, number_at, varint-length count short, items_length size items long, ap (λ n. n * size) same, mul_comm count size);
}

pub encode_size-requires-clause-fits : goal.encode_size-requires-clause-fits
encode_size-requires-clause-fits c = omega (arith, varint-length c.len-count.result (omega (arith, c.if-count.false)))

pub overflow_add-view : goal.overflow_add-view
overflow_add-view c = omega (arith, c.encode_size.ensures, varint-length c.len-count.result (omega (arith, c.if-count.false)), c.as_bytes-bytes.type_inv.1)

pub returns-then-out-view-clause-room : goal.returns-then-out-view-clause-room
returns-then-out-view-clause-room c = λ _. (
  own_set c.args.size c.len-count.result c.encode_size.result c.args.items.now c.as_bytes-bytes.result.now c.requires.long c.requires.strict c.as_bytes-bytes.ensures
      (omega (arith, c.if-count.false)) c.len-count.ensures c.encode_size.ensures,
  c.if-out-view.true,
)

pub returns-clause-written : goal.returns-clause-written
returns-clause-written c = λ _.
    let count = c.len-count.result in
    let bytes = c.as_bytes-bytes.result.now in
    let room = c.args.out.now in
    let fits : 0 + length (varint count) ≤ length room = omega (arith, c.if-out-view.false, c.encode_size.ensures) in (
      own_set c.args.size count c.encode_size.result c.args.items.now bytes c.requires.long c.requires.strict c.as_bytes-bytes.ensures
          (omega (arith, c.if-count.false)) c.len-count.ensures c.encode_size.ensures,
      c.put_bytes.ensures.bytes
          ∙ spliced_on 0 c.put_varint-start.result (varint count) bytes c.put_varint-start.new.out room fits c.put_varint-start.ensures.place c.put_varint-start.ensures.bytes
          ∙ (λ j. spliced 0 (varint (c.len-count.ensures j) ++ c.as_bytes-bytes.ensures j) room),
    )
