use Rattle.std.proofs.Common.{rules, ◌≡◌, ◌∙◌, ◌+◌, ◌*◌, ◌-◌, ◌++◌, length, subst, sym, ap, arith}
use Rattle.std.specs.List.{flat_map}
use Rattle.std.specs.Map.{keys_of, values_of}
use Rattle.std.proofs.Math.Nat.{mul_comm}
use Rattle.std.proofs.lemmas.List.{append_assoc, length-append}
use Rattle.std.proofs.lemmas.Map.Entries.{length-keys_of, length-values_of}
use Rattle.commonware_base.specs.Lists.{list_enc}
use Rattle.commonware_base.specs.Source.{rest_of}
use Rattle.commonware_base.specs.Varint.{varint}
use Rattle.commonware_sequence.specs.FixedBytes.{own_bytes}
use Rattle.commonware_views.specs.Lists.{StandBy}
use Rattle.commonware_views.specs.laws.PlaceLaws.{items_stand, stand_on}
use Rattle.commonware_c.specs.Committees.{between}
use Rattle.commonware_c.proofs.OneMap.{items_bytes}
use Rattle.commonware_c.proofs.maps.find_map.Goals as goal

pub overflow_sub-values : goal.overflow_sub-values
overflow_sub-values c =
    let pairs = c.in_ok-pairs.pairs in
    omega (
      arith,
      ap length (c.as_bytes.ensures ∙ ap (flat_map own_bytes) c.values.ensures),
      c.position.ensures.position,
      c.in_ok-pairs.ensures.consumed.position,
      length-append (list_enc own_bytes (keys_of pairs)) (list_enc own_bytes (values_of pairs)),
      length-append (varint (length (values_of pairs))) (flat_map own_bytes (values_of pairs)),
    )

pub returns-clause-found : goal.returns-clause-found
returns-clause-found c =
    let ks = c.args.key_size in
    let vs = c.args.value_size in
    let s = c.args.input.now in
    let input : rest_of c.new-source.result ≡ s = search rules in
    let range : c.from-range.result ≡ between c.args.least c.args.most = search rules in
    let pairs = c.in_ok-pairs.pairs in
    let keys = keys_of pairs in
    let values = values_of pairs in
    let rest = rest_of c.read.new.src in
    let is = rw range at (rw input at c.in_ok-pairs.ensures.accepted) in
    let front = list_enc own_bytes keys in
    let back = list_enc own_bytes values ++ rest in
    let whole : s ≡ front ++ back = is.begins ∙ append_assoc front (list_enc own_bytes values) rest in
    let start : c.encode_size-keys.result ≡ length (varint (length keys)) =
    c.encode_size-keys.ensures ∙ ap (λ n. length (varint n)) (c.len.ensures ∙ sym (length-keys_of pairs)) in
    let many : length (varint (length values)) ≡ length (varint (length pairs)) = ap (λ n. length (varint n)) (length-values_of pairs) in
    let key_bytes : length (flat_map own_bytes keys) ≡ ks * length pairs =
    items_bytes ks keys is.writable.0.list.each ∙ mul_comm (length keys) ks ∙ ap (λ n. ks * n) (length-keys_of pairs) in
    let at : c.position.result - length c.as_bytes.result.now ≡ length front + length (varint (length values)) =
    omega (
      arith,
      ap length (c.as_bytes.ensures ∙ ap (flat_map own_bytes) c.values.ensures),
      c.position.ensures.position,
      c.new-source.ensures.position,
      c.in_ok-pairs.ensures.consumed.position,
      length-append front (list_enc own_bytes values),
      length-append (varint (length values)) (flat_map own_bytes values),
    ) in
    record {
      rest = rest;
      is = is;
      left_is = c.remaining-left.ensures;
      keys_start = start ∙ ap (λ n. length (varint n)) (length-keys_of pairs);
      values_start = omega (arith, at, many, start, key_bytes, length-append (varint (length keys)) (flat_map own_bytes keys));
      keys_stand = subst (λ n. StandBy ks s n keys) (sym start)
          (subst (λ t. StandBy ks t (length (varint (length keys))) keys) (sym whole) (items_stand ks keys back is.writable.0.list.each));
      values_stand = subst (λ n. StandBy vs s n values) (sym at)
          (subst (λ t. StandBy vs t (length front + length (varint (length values))) values) (sym whole)
          (stand_on vs front back (length (varint (length values))) values (items_stand vs values rest is.writable.1.each)));
    }
