-- An input that goes on with a number and as many items of one size.
use Rattle.std.proofs.Common.{◌≡◌, ◌∙◌, ℕ, ◌*◌, ◌<◌, ◌≤◌, ◌^◌, List, ◌++◌, drop, take, length, ap, arith, sym, subst}
use Rattle.std.specs.List.{AllByRecursion, flat_map}
use Rattle.std.specs.Simd.{first_chunks}
use Rattle.std.proofs.lemmas.List.{append_assoc, length-take-le, take-append-drop}
use Rattle.commonware_base.specs.declared.codec.source.Source.{Source}
use Rattle.commonware_base.specs.laws.ItemsLaws.{each_allowed}
use Rattle.commonware_base.specs.laws.SourceLaws.{rest_bytes}
use Rattle.commonware_base.specs.Lists.{IsAllowedList, IsWritableList, list_enc}
use Rattle.commonware_base.specs.Range.{Bounds, Within}
use Rattle.commonware_base.specs.Source.{Consumes, rest_of}
use Rattle.commonware_base.specs.Varint.{varint}
use Rattle.commonware_sequence.specs.laws.FixedBytesLaws.{bytes_left}
use Rattle.commonware_sequence.specs.FixedBytes.{IsOfSize, own_bytes}
use Rattle.commonware_views.proofs.Chunks.{chunks_are_all, chunks_are_items, chunks_count}

module _ (size count : ℕ) (start now : Source) (enough : count * size ≤ length (rest_of now)) where
  -- the bytes of the items
  abbrev pub cut_bytes : List ℕ
  cut_bytes = take (count * size) (rest_of now)

  -- the items
  abbrev pub items_cut : List (List ℕ)
  items_cut = first_chunks size count cut_bytes

  pub cut_number : length items_cut ≡ count
  cut_number = chunks_count size count cut_bytes

  pub cut_long : length cut_bytes ≡ count * size
  cut_long = length-take-le (count * size) (rest_of now) enough

  pub cut_flat : flat_map own_bytes items_cut ≡ cut_bytes
  cut_flat = chunks_are_all size count cut_bytes cut_long

  cut_each : AllByRecursion (IsOfSize size) items_cut
  cut_each = chunks_are_items size count cut_bytes (bytes_left (count * size) (rest_of now) (rest_bytes now)) (subst (λ n. count * size ≤ n) (sym cut_long) (omega arith))

  -- the number and the items are the bytes of the list of the items
  pub begins_with : (rest : List ℕ) → Consumes start now (varint count) → rest_of now ≡ flat_map own_bytes items_cut ++ rest
      → rest_of start ≡ list_enc own_bytes items_cut ++ rest
  begins_with rest number more =
      number.rest ∙ ap (λ t. varint count ++ t) more
      ∙ sym (append_assoc (varint count) (flat_map own_bytes items_cut) rest)
      ∙ ap (λ n. (varint n ++ flat_map own_bytes items_cut) ++ rest) (sym cut_number)

  -- what is left after the items
  pub cut_after : rest_of now ≡ flat_map own_bytes items_cut ++ drop (count * size) (rest_of now)
  cut_after =
      sym (take-append-drop (count * size) (rest_of now)) ∙ ap (λ t. t ++ drop (count * size) (rest_of now)) (sym cut_flat)

  -- the list can be written
  pub cut_writable : count < 2 ^ 32 → IsWritableList (IsOfSize size) items_cut
  cut_writable short = record { short = subst (λ n. n < 2 ^ 32) (sym cut_number) short; each = cut_each }

  -- and it is allowed where their number is
  pub cut_allowed : (range : Bounds ℕ) → Within range count → IsAllowedList range (λ _. Unit {0}) items_cut
  cut_allowed range within = record { in_range = subst (Within range) (sym cut_number) within; each = each_allowed items_cut }
