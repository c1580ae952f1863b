-- Rows of a key and a value, each of one size, and the pairs that are kept of them.
use Rattle.std.proofs.Common.{◌≡◌, ◌∙◌, ℕ, ◌+◌, ◌*◌, ◌<◌, ◌≤◌, ◌^◌, List, [], ◌∷◌, length, map, arith, ap, nat_eq, sym}
use Rattle.std.specs.List.{AllByRecursion, flat_map}
use Rattle.std.specs.Map.{keys_of, values_of}
use Rattle.std.specs.Cmp.Lexicographic.{pointwise}
use Rattle.std.proofs.Math.Nat.{add-mul, mul_comm}
use Rattle.std.proofs.lemmas.List.{length-append, length-drop, length-map, length-take-le}
use Rattle.std.proofs.lemmas.Map.Entries.{length-keys_of, length-values_of}
use Rattle.std.proofs.lemmas.Nat.{mul-le}
use Rattle.commonware_base.specs.Lists.{list_enc}
use Rattle.commonware_base.specs.Varint.{varint}
use Rattle.commonware_base.specs.laws.VarintLaws.{varint-length}
use Rattle.commonware_map.specs.Pairs.{on_keys}
use Rattle.commonware_sequence.specs.FixedBytes.{bytes_cmp, own_bytes}
use Rattle.commonware_views.specs.laws.ItemLaws.{AreLong, items_length}
use Rattle.commonware_c.specs.Pairs.{IsFirstOfEach, IsMapOf, pair_of}
use Rattle.commonware_c.proofs.Made.{dedup_all, each_contained, set_not_longer}
use Rattle.commonware_c.proofs.Values.{dedup_values}

-- a key and a value of these sizes
abbrev pub HasSizes : ℕ → ℕ → List ℕ × List ℕ → Type 0
HasSizes ks vs p = (length p.0 ≡ ks) × (length p.1 ≡ vs)

-- of each row
rows_have_sizes : (ks vs : ℕ) (rows : List (List ℕ)) → AreLong (ks + vs) rows → AllByRecursion (HasSizes ks vs) (map (pair_of ks) rows)
rows_have_sizes ks vs [] long = tt
rows_have_sizes ks vs (row ∷ rows) long = (
  (length-take-le ks row (omega (arith, long.0)), omega (arith, length-drop ks row, long.0)),
  rows_have_sizes ks vs rows long.1,
)

-- the keys of such pairs
pub keys_have_size : (ks vs : ℕ) (pairs : List (List ℕ × List ℕ)) → AllByRecursion (HasSizes ks vs) pairs → AreLong ks (keys_of pairs)
keys_have_size ks vs [] all = tt
keys_have_size ks vs (p ∷ pairs) all = (all.0.0, keys_have_size ks vs pairs all.1)

-- and their values
pub values_have_size : (ks vs : ℕ) (pairs : List (List ℕ × List ℕ)) → AllByRecursion (HasSizes ks vs) pairs → AreLong vs (values_of pairs)
values_have_size ks vs [] all = tt
values_have_size ks vs (p ∷ pairs) all = (all.0.1, values_have_size ks vs pairs all.1)

module _ (ks vs : ℕ) (rows : List (List ℕ)) (pairs : List (List ℕ × List ℕ)) (long : AreLong (ks + vs) rows) (firsts : IsFirstOfEach ks rows pairs) where
  pub kept_sizes : AllByRecursion (HasSizes ks vs) pairs
  kept_sizes =
      dedup_all (on_keys (pointwise nat_eq)) (on_keys bytes_cmp) (HasSizes ks vs) (map (pair_of ks) rows) pairs firsts
      (each_contained (HasSizes ks vs) (map (pair_of ks) rows) (rows_have_sizes ks vs rows long))

  -- the bytes of the keys
  pub keys_bytes : length (flat_map own_bytes (keys_of pairs)) ≡ ks * length pairs
  keys_bytes =
      items_length ks (keys_of pairs) (keys_have_size ks vs pairs kept_sizes) ∙ ap (λ n. n * ks) (length-keys_of pairs) ∙ mul_comm (length pairs) ks

  -- and of the values
  pub values_bytes : length (flat_map own_bytes (values_of pairs)) ≡ vs * length pairs
  values_bytes =
      items_length vs (values_of pairs) (values_have_size ks vs pairs kept_sizes) ∙ ap (λ n. n * vs) (length-values_of pairs) ∙ mul_comm (length pairs) vs

  -- there are no more pairs than rows
  pub pairs_not_more : length pairs ≤ length rows
  pairs_not_more =
      let fewer = set_not_longer (map (λ p. p.0) (map (pair_of ks) rows)) (map (λ p. p.0) pairs) (dedup_values (λ p. p.0) (pointwise nat_eq) bytes_cmp (map (pair_of ks) rows) pairs firsts) in
      omega (arith, fewer, length-map pairs (λ p. p.0), length-map (map (pair_of ks) rows) (λ p. p.0), length-map rows (pair_of ks))

  -- so they have no more bytes
  pub pairs_fit : ks * length pairs + vs * length pairs ≤ length (flat_map own_bytes rows)
  pairs_fit =
      omega (
        arith,
        items_length (ks + vs) rows long,
        mul-le (length pairs) (ks + vs) (length rows) (ks + vs) pairs_not_more (omega arith),
        mul_comm (length pairs) (ks + vs),
        add-mul ks vs (length pairs),
      )

  -- the number of the pairs, and of the map's bytes
  pub is_map : (count front : ℕ) → count < 2 ^ 32 → count ≡ length pairs → front ≡ length (varint count)
      → IsMapOf ks vs rows pairs count (front + ks * count + (front + vs * count))
  is_map count front short same number_at =
      let keys = keys_of pairs in
      let values = values_of pairs in
      let most = varint-length count short in record {
        firsts = firsts;
        count_is = same;
        count_most = omega (arith, same, pairs_not_more);
        count_short = short;
        bytes_is = omega (
          arith,
          number_at,
          ap (λ n. length (varint n)) (same ∙ sym (length-keys_of pairs)),
          ap (λ n. length (varint n)) (same ∙ sym (length-values_of pairs)),
          ap (λ n. ks * n) same,
          ap (λ n. vs * n) same,
          keys_bytes,
          values_bytes,
          length-append (list_enc own_bytes keys) (list_enc own_bytes values),
          length-append (varint (length keys)) (flat_map own_bytes keys),
          length-append (varint (length values)) (flat_map own_bytes values),
        );
        bytes_most = omega (arith, number_at, most, add-mul ks vs count);
      }
