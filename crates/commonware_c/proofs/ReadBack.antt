-- What stands at the start of a room is what was written there, and nothing else.
use Rattle.std.proofs.Common.{◌≡◌, ◌∙◌, ℕ, ◌+◌, ◌<◌, ◌^◌, ◌-◌, List, [], ◌∷◌, ◌++◌, length, take, drop, map, append-nil, append_assoc, length-append, ap, sym, subst, subst₂, arith}
use Rattle.std.specs.Prelude.{nat_eq}
use Rattle.std.specs.Cmp.Lexicographic.{bytes_decides, pointwise, pointwise_decides, same_text, texts_ties}
use Rattle.std.specs.List.{AllByRecursion, flat_map}
use Rattle.std.specs.Map.{keys_of, values_of}
use Rattle.std.proofs.Math.Seq.{drop-append_seam, take-append_seam}
use Rattle.std.proofs.lemmas.Bool.{and_parts}
use Rattle.std.proofs.lemmas.Cmp.{nat_list_cmp_total}
use Rattle.std.proofs.lemmas.Map.Entries.{length-keys_of, length-values_of}
use Rattle.commonware_base.specs.Lists.{IsAllowedList, IsWritableList, list_enc}
use Rattle.commonware_base.specs.Range.{Bounds}
use Rattle.commonware_base.specs.Text.{AreBytes}
use Rattle.commonware_base.specs.Unions.{union_text}
use Rattle.commonware_base.specs.Varint.{varint}
use Rattle.commonware_base.specs.laws.ItemsLaws.{each_allowed}
use Rattle.commonware_base.specs.laws.TextLaws.{bytes_right}
use Rattle.commonware_map.specs.Maps.{map_enc}
use Rattle.commonware_ordered.specs.Strict.{IsStrict}
use Rattle.commonware_ordered.specs.laws.SetLaws.{set_canonical, set_prefix_free}
use Rattle.commonware_sequence.specs.FixedBytes.{IsOfSize, bytes_cmp, own_bytes}
use Rattle.commonware_sequence.specs.laws.FixedBytesLaws.{fixed_canonical, fixed_prefix_free}
use Rattle.commonware_views.specs.Lists.{Any}
use Rattle.commonware_views.specs.Maps.{IsSizedMapOf}
use Rattle.commonware_views.specs.Sets.{IsKeySetOf}
use Rattle.commonware_views.specs.laws.ItemLaws.{AreLong}
use Rattle.committee_certificates.specs.Certificates.{IsWritableCertificate, certificate_enc}
use Rattle.committee_certificates.specs.Slots.{IsFor}
use Rattle.committee_certificates.specs.laws.CertificateLaws.{certificate_canonical, certificate_prefix_free}
use Rattle.commonware_c.specs.Certificates.{AreTwo, IsCertificate, IsWhole, any_length, up_to}
use Rattle.commonware_c.specs.Committees.{IsSetOf, between}
use Rattle.commonware_c.specs.Pairs.{IsMapOf, pair_of}
use Rattle.commonware_c.specs.Splices.{spliced}
use Rattle.commonware_c.proofs.Made.{dedup_lengths}
use Rattle.commonware_c.proofs.Rows.{kept_sizes, keys_have_size, values_have_size}
use Rattle.commonware_c.proofs.Values.{dedup_values}

-- the room begins with what was written to its start
pub begins_with : (bytes old room : List ℕ) → room ≡ spliced 0 bytes old → room ≡ bytes ++ drop (length bytes) old
begins_with bytes old room e =
    let here : 0 + length bytes ≡ length bytes = omega arith in
    e ∙ ap (λ n. bytes ++ drop n old) here

-- and that is all of what is cut from it
pub cut_to : (bytes old room : List ℕ) (size : ℕ) → room ≡ spliced 0 bytes old → size ≡ length bytes
    → take size room ≡ bytes
cut_to bytes old room size e s =
    ap (λ n. take n room) s ∙ ap (take (length bytes)) (begins_with bytes old room e)
    ∙ take-append_seam bytes (drop (length bytes) old)

-- a value that was written is for its slot and its decision
pub written_value : (slot decision old room : List ℕ) (size : ℕ) → length slot < 2 ^ 32
    → room ≡ spliced 0 (union_text slot decision) old → size ≡ length (union_text slot decision)
    → IsFor (take size room) slot decision
written_value slot decision old room size short e s = record {
  short = short;
  text = cut_to (union_text slot decision) old room size e s;
}

-- a certificate that was written is one of a value and of signers up to their lengths
pub written_certificate : (value signers room rest : List ℕ) → IsWritableCertificate (value, signers)
    → room ≡ certificate_enc (value, signers) ++ rest
    → IsCertificate (up_to (length value)) (up_to (length signers)) room (value, signers) rest
written_certificate value signers room rest writable begins = record {
  writable = writable;
  allowed = (
    record { in_range = record { above = tt; below = omega arith }; each = each_allowed value },
    record { in_range = record { above = tt; below = omega arith }; each = each_allowed signers },
  );
  begins = begins;
}

-- and bytes that are its encoding are one certificate
pub whole_certificate : (value signers s : List ℕ) → IsWritableCertificate (value, signers)
    → s ≡ certificate_enc (value, signers) → IsWhole s (value, signers)
whole_certificate value signers s writable same = record {
  writable = writable;
  allowed = (
    record { in_range = record { above = tt; below = tt }; each = each_allowed value },
    record { in_range = record { above = tt; below = tt }; each = each_allowed signers },
  );
  begins = same ∙ sym (append-nil (certificate_enc (value, signers)));
}

-- an input begins with one certificate, whatever the limits are
pub one_certificate : (a b c d : Bounds ℕ) (s : List ℕ) (p q : List ℕ × List ℕ) (x y : List ℕ)
    → IsCertificate a b s p x → IsCertificate c d s q y → (p.0 ≡ q.0) × (p.1 ≡ q.1)
one_certificate a b c d s p q x y one two =
    let same = certificate_prefix_free p q x y one.writable two.writable (sym one.begins ∙ two.begins) in
    let equal = (certificate_canonical.equal_by_bytes p q one.writable two.writable).1 same in
    let parts = and_parts _ _ equal in
    (same_text p.0 q.0 (sym parts.0), same_text p.1 q.1 (sym parts.1))

-- so what holds of the two certificates that two inputs are holds of each two that they are
pub of_two : (first second : List ℕ) (c d : List ℕ × List ℕ) (P : List ℕ × List ℕ → List ℕ × List ℕ → Type 0)
    → IsWhole first c → IsWhole second d → AreTwo first second P → P c d
of_two first second c d P is is_too (one, two, found, found_too, holds) =
    let same = one_certificate any_length any_length any_length any_length first one c [] [] found is in
    let same_too = one_certificate any_length any_length any_length any_length second two d [] [] found_too is_too in
    subst₂ P (λ j. (same.0 j, same.1 j)) (λ j. (same_too.0 j, same_too.1 j)) holds

-- the first of bytes are bytes
bytes_left : (x y : List ℕ) → AreBytes (x ++ y) → AreBytes x
bytes_left [] y h = tt
bytes_left (b ∷ x) y h = (h.0, bytes_left x y h.1)

-- items of one length whose bytes are bytes
items_of_size : (size : ℕ) (items : List (List ℕ)) → AreLong size items → AreBytes (flat_map own_bytes items)
    → AllByRecursion (IsOfSize size) items
items_of_size size [] long bytes = tt
items_of_size size (x ∷ items) long bytes = (
  record { count = long.0; bytes = bytes_left x (flat_map own_bytes items) bytes },
  items_of_size size items long.1 (bytes_right x (flat_map own_bytes items) bytes),
)

-- such items, of fewer than 2 ^ 32, can be written as a list
writable_items : (size : ℕ) (items : List (List ℕ)) → length items < 2 ^ 32 → AreLong size items
    → AreBytes (list_enc own_bytes items) → IsWritableList (IsOfSize size) items
writable_items size items short long bytes = record {
  short = short;
  each = items_of_size size items long (bytes_right (varint (length items)) (flat_map own_bytes items) bytes);
}

-- up to as many as there are, they are allowed
allowed_items : (items : List (List ℕ)) (count : ℕ) → count ≡ length items → IsAllowedList (between 0 count) Any items
allowed_items items count same = record {
  in_range = record { above = omega arith; below = omega (arith, same) };
  each = each_allowed items;
}

-- a set that was written is one of up to as many keys
pub written_set : (size : ℕ) (items set : List (List ℕ)) (count bytes : ℕ) (room rest : List ℕ) → AreLong size items
    → IsSetOf size items set count bytes → AreBytes room → room ≡ list_enc own_bytes set ++ rest
    → IsKeySetOf size (between 0 count) room set rest
written_set size items set count bytes room rest long is are begins =
    let text = bytes_left (list_enc own_bytes set) rest (subst AreBytes begins are) in
    record {
      writable = record {
        list =
            writable_items size set (omega (arith, is.count_is, is.count_short))
            (dedup_lengths size (pointwise nat_eq) bytes_cmp items set long is.dedup) text;
        strict = is.dedup.strict;
      };
      allowed = allowed_items set count is.count_is;
      begins = begins;
    }

-- an input begins with one set, whatever the limits are
pub one_set : (size : ℕ) (a b : Bounds ℕ) (s : List ℕ) (p q : List (List ℕ)) (x y : List ℕ)
    → IsKeySetOf size a s p x → IsKeySetOf size b s q y → p ≡ q
one_set size a b s p q x y one two =
    let free = fixed_prefix_free size in
    let same = set_prefix_free own_bytes (IsOfSize size) bytes_cmp free p q x y one.writable two.writable
    (sym one.begins ∙ two.begins) in
    let laws = set_canonical own_bytes (IsOfSize size) bytes_cmp free (pointwise nat_eq) nat_list_cmp_total texts_ties
    (fixed_canonical size) in
    (pointwise_decides bytes_decides p q).0 ((laws.equal_by_bytes p q one.writable two.writable).1 same)

-- what is cut out of an input between its number of keys and what follows them is the keys
pub keys_cut : (size : ℕ) (range : Bounds ℕ) (s : List ℕ) (items : List (List ℕ)) (rest : List ℕ) (start left : ℕ)
    → IsKeySetOf size range s items rest → start ≡ length (varint (length items)) → left ≡ length rest
    → take (length s - left - start) (drop start s) ≡ flat_map own_bytes items
keys_cut size range s items rest start left is at after =
    let front = varint (length items) in
    let flat = flat_map own_bytes items in
    let long : length s - left - length front ≡ length flat =
    omega (arith, ap length is.begins, length-append (front ++ flat) rest, length-append front flat, after) in
    ap (λ n. take (length s - left - n) (drop n s)) at
    ∙ ap (take (length s - left - length front))
    (ap (drop (length front)) (is.begins ∙ append_assoc front flat rest) ∙ drop-append_seam front (flat ++ rest))
    ∙ ap (λ n. take n (flat ++ rest)) long ∙ take-append_seam flat rest

-- a map that was written is one of up to as many pairs
pub written_map : (ks vs : ℕ) (rows : List (List ℕ)) (pairs : List (List ℕ × List ℕ)) (count bytes : ℕ)
    (room rest : List ℕ) → AreLong (ks + vs) rows → IsMapOf ks vs rows pairs count bytes → AreBytes room
    → room ≡ map_enc own_bytes own_bytes pairs ++ rest → IsSizedMapOf ks vs (between 0 count) room pairs rest
written_map ks vs rows pairs count bytes room rest long is are begins =
    let keys = keys_of pairs in
    let values = values_of pairs in
    let text = bytes_left (map_enc own_bytes own_bytes pairs) rest (subst AreBytes begins are) in
    let sizes = kept_sizes ks vs rows pairs long is.firsts in
    let as_many_keys = length-keys_of pairs in
    let as_many_values = length-values_of pairs in
    let strict : IsStrict bytes_cmp keys =
    (dedup_values (λ p. p.0) (pointwise nat_eq) bytes_cmp (map (pair_of ks) rows) pairs is.firsts).strict in
    record {
      writable = (
        record {
          list =
              writable_items ks keys (omega (arith, as_many_keys, is.count_is, is.count_short))
              (keys_have_size ks vs pairs sizes) (bytes_left (list_enc own_bytes keys) (list_enc own_bytes values) text);
          strict = strict;
        },
        writable_items vs values (omega (arith, as_many_values, is.count_is, is.count_short))
            (values_have_size ks vs pairs sizes) (bytes_right (list_enc own_bytes keys) (list_enc own_bytes values) text),
      );
      allowed = (
        allowed_items keys count (omega (arith, as_many_keys, is.count_is)),
        record {
          in_range = record {
            above = omega (arith, as_many_keys, as_many_values);
            below = omega (arith, as_many_keys, as_many_values);
          };
          each = each_allowed values;
        },
      );
      begins = begins;
    }
