-- Where the items of an encoding stand in an input.
use Rattle.std.specs.Prelude.{◌≡◌, ℕ, zero, suc, ◌+◌, ◌*◌, List, [], ◌∷◌, ◌++◌, length, take, drop}
use Rattle.std.specs.List.{AllByRecursion, flat_map}
use Rattle.std.proofs.Common.{arith, ap, sym, ◌∙◌}
use Rattle.std.proofs.Math.Nat.{suc-mul}
use Rattle.std.proofs.Math.Seq.{drop-append-add, take-append_seam}
use Rattle.std.proofs.lemmas.List.{append_assoc}
use Rattle.std.proofs.lemmas.Option.{same_Some}
use Rattle.commonware_base.specs.Lists.{list_enc}
use Rattle.commonware_base.specs.Varint.{varint}
use Rattle.commonware_sequence.specs.FixedBytes.{IsOfSize, own_bytes}
use Rattle.commonware_views.specs.Lists.{StandBy}

-- among their bytes, with more after them
stand_among : (size : ℕ) (items : List (List ℕ)) (rest : List ℕ) → AllByRecursion (IsOfSize size) items
    → StandBy size (flat_map own_bytes items ++ rest) 0 items
stand_among size [] rest each i m at = absurd (cc)
stand_among size (x ∷ items) rest (here, each) zero m at =
    let same : x ≡ m = same_Some x m at in
    let none : 0 + 0 * size ≡ 0 = omega arith in
    ap (λ n. take size (drop n ((x ++ flat_map own_bytes items) ++ rest))) none
    ∙ ap (take size) (append_assoc x (flat_map own_bytes items) rest)
    ∙ (ap (λ n. take n (x ++ (flat_map own_bytes items ++ rest))) (sym here.count)
    ∙ (take-append_seam x (flat_map own_bytes items ++ rest) ∙ same))
stand_among size (x ∷ items) rest (here, each) (suc i) m at =
    let on : 0 + suc i * size ≡ length x + (0 + i * size) = omega (arith, suc-mul i size, here.count) in
    ap (take size) (ap (λ n. drop n ((x ++ flat_map own_bytes items) ++ rest)) on
    ∙ (ap (drop (length x + (0 + i * size))) (append_assoc x (flat_map own_bytes items) rest)
    ∙ drop-append-add x (flat_map own_bytes items ++ rest) (0 + i * size)))
    ∙ stand_among size items rest each i m at

-- what stands in bytes stands after more bytes
pub stand_on : (size : ℕ) (front s : List ℕ) (start : ℕ) (items : List (List ℕ)) → StandBy size s start items
    → StandBy size (front ++ s) (length front + start) items
stand_on size front s start items there i m at =
    let on : length front + start + i * size ≡ length front + (start + i * size) = omega arith in
    ap (λ n. take size (drop n (front ++ s))) on
    ∙ ap (take size) (drop-append-add front s (start + i * size)) ∙ there i m at

-- the items of a list stand after the varint of their number
pub items_stand : (size : ℕ) (items : List (List ℕ)) (rest : List ℕ) → AllByRecursion (IsOfSize size) items
    → StandBy size (list_enc own_bytes items ++ rest) (length (varint (length items))) items
items_stand size items rest each i m at =
    let front = varint (length items) in
    let more = flat_map own_bytes items in
    let on : length front + i * size ≡ length front + (0 + i * size) = omega arith in
    ap (take size) (ap (λ n. drop n ((front ++ more) ++ rest)) on
    ∙ (ap (drop (length front + (0 + i * size))) (append_assoc front more rest)
    ∙ drop-append-add front (more ++ rest) (0 + i * size)))
    ∙ stand_among size items rest each i m at
