-- The two columns of a map, written to a room one after the other.
use Rattle.std.proofs.Common.{◌≡◌, ◌∙◌, ◌+◌, ◌*◌, ◌<◌, ◌≤◌, ◌^◌, ◌++◌, ℕ, List, length, arith, ap, subst, sym}
use Rattle.std.specs.List.{flat_map}
use Rattle.std.specs.Map.{keys_of, values_of}
use Rattle.std.proofs.lemmas.List.{append_assoc, length-append}
use Rattle.std.proofs.lemmas.Map.Entries.{length-keys_of, length-values_of}
use Rattle.commonware_base.specs.Lists.{list_enc}
use Rattle.commonware_base.specs.Varint.{varint}
use Rattle.commonware_map.specs.Maps.{map_enc}
use Rattle.commonware_sequence.specs.FixedBytes.{own_bytes}
use Rattle.commonware_views.specs.laws.ItemLaws.{AreLong}
use Rattle.commonware_c.specs.Pairs.{IsFirstOfEach, IsMapOf}
use Rattle.commonware_c.specs.Splices.{spliced}
use Rattle.commonware_c.proofs.Rows.{is_map, keys_bytes, pairs_fit, values_bytes}
use Rattle.commonware_c.proofs.Spliced.{length_on, spliced_on}

module _ (ks vs count : ℕ) (rows : List (List ℕ)) (pairs : List (List ℕ × List ℕ)) (long : AreLong (ks + vs) rows) (firsts : IsFirstOfEach ks rows pairs)
    (same : count ≡ length pairs) where
  -- the bytes of keys and values are fewer than 2^63, where those of the rows are
  pub columns_fit : (bytes : List ℕ) → bytes ≡ flat_map own_bytes rows → length bytes * 1 < 2 ^ 63 → ks * count + vs * count < 2 ^ 63
  columns_fit bytes are few =
      omega (arith, pairs_fit ks vs rows pairs long firsts, ap (λ n. ks * n) same, ap (λ n. vs * n) same, ap length are, few)

  -- the bytes of the keys and of the values
  key_bytes : length (flat_map own_bytes (keys_of pairs)) ≡ ks * count
  key_bytes = keys_bytes ks vs rows pairs long firsts ∙ ap (λ n. ks * n) (sym same)

  value_bytes : length (flat_map own_bytes (values_of pairs)) ≡ vs * count
  value_bytes = values_bytes ks vs rows pairs long firsts ∙ ap (λ n. vs * n) (sym same)

  -- the number of the pairs, and of the map's bytes
  pub is_map_of : (front again : ℕ) → count ≤ 4294967295 → front ≡ length (varint count) → again ≡ length (varint count)
      → IsMapOf ks vs rows pairs count (front + ks * count + (again + vs * count))
  is_map_of front again short is is_too =
      subst (λ n. IsMapOf ks vs rows pairs count (front + ks * count + (n + vs * count))) (is ∙ sym is_too)
      (is_map ks vs rows pairs long firsts count front (omega (arith, short)) same is)

  -- the keys' bytes with their number
  abbrev front_column : List ℕ
  front_column = list_enc own_bytes (keys_of pairs)

  front_bytes : length front_column ≡ length (varint count) + ks * count
  front_bytes =
      omega (
        arith,
        length-append (varint (length (keys_of pairs))) (flat_map own_bytes (keys_of pairs)),
        ap (λ n. length (varint n)) (length-keys_of pairs ∙ sym same),
        key_bytes,
      )

  -- The room has place for all. After the number, the keys, the number again and the values it is as the encoding says.
  module _ (room first second third keys values : List ℕ) (start end next : ℕ)
      (fits : length (varint count) + ks * count + (length (varint count) + vs * count) ≤ length room) (are_keys : keys ≡ flat_map own_bytes (keys_of pairs))
      (place : start ≡ 0 + length (varint count)) (one : first ≡ spliced 0 (varint count) room) where
    -- there is place for the keys
    pub place_for_keys : start + length keys ≤ length first
    place_for_keys =
        omega (arith, fits, place, ap length are_keys, key_bytes, length_on 0 (varint count) first room (omega (arith, fits)) one)

    module _ (two : second ≡ spliced start keys first) (after : end ≡ length (varint count) + ks * count) (three : third ≡ spliced end (varint count) second) where
      keys_put : second ≡ spliced 0 front_column room
      keys_put =
          two ∙ ap (λ t. spliced start t first) are_keys
          ∙ spliced_on 0 start (varint count) (flat_map own_bytes (keys_of pairs)) first room (omega (arith, fits)) place one
          ∙ ap (λ n. spliced 0 (varint n ++ flat_map own_bytes (keys_of pairs)) room) (same ∙ sym (length-keys_of pairs))

      number_put : third ≡ spliced 0 (front_column ++ varint count) room
      number_put =
          three ∙ spliced_on 0 end front_column (varint count) second room (omega (arith, front_bytes, fits)) (omega (arith, front_bytes, after)) keys_put

      module _ (are_values : values ≡ flat_map own_bytes (values_of pairs)) (again : next ≡ end + length (varint count)) where
        both_length : length (front_column ++ varint count) ≡ length (varint count) + ks * count + length (varint count)
        both_length = omega (arith, length-append front_column (varint count), front_bytes)

        -- there is place for the values
        pub place_for_values : next + length values ≤ length third
        place_for_values =
            omega (
              arith,
              again,
              after,
              fits,
              both_length,
              ap length are_values,
              value_bytes,
              length_on 0 (front_column ++ varint count) third room (omega (arith, both_length, fits)) number_put,
            )

        pub map_put : (fourth : List ℕ) → fourth ≡ spliced next values third → fourth ≡ spliced 0 (map_enc own_bytes own_bytes pairs) room
        map_put fourth four =
            four ∙ ap (λ t. spliced next t third) are_values
            ∙ spliced_on 0 next (front_column ++ varint count) (flat_map own_bytes (values_of pairs)) third room (omega (arith, both_length, fits))
            (omega (arith, again, after, both_length)) number_put
            ∙ ap (λ t. spliced 0 t room)
            (append_assoc front_column (varint count) (flat_map own_bytes (values_of pairs))
            ∙ ap (λ n. front_column ++ (varint n ++ flat_map own_bytes (values_of pairs))) (same ∙ sym (length-values_of pairs)))
