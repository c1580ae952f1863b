-- Items that are the same, read at their positions.
use Rattle.std.proofs.Common.{◌≡◌, ◌∙◌, ℕ, ◌<◌, ◌≤◌, List, [], length, take, get_or, true, arith, ap, sym, subst}
use Rattle.std.specs.Prelude.{nat_eq, Some}
use Rattle.std.specs.Cmp.{Equal-is}
use Rattle.std.specs.Cmp.Lexicographic.{pointwise, texts_ties}
use Rattle.std.specs.List.{slice_get}
use Rattle.std.specs.Ordering.{is_eq}
use Rattle.std.proofs.lemmas.Cmp.{nat_list_cmp_total, tied_itself}
use Rattle.std.proofs.lemmas.List.{get_or-take, length-take-le}
use Rattle.std.proofs.lemmas.Map.Lookups.{exact_bytes}
use Rattle.std.proofs.lemmas.Option.{get_or_from_slice_get, slice_get-get_or, slice_get_within}
use Rattle.commonware_ordered.specs.Whole.{HasEqualItems}
use Rattle.commonware_sequence.specs.FixedBytes.{bytes_cmp}

-- bytes that test equal are the same
same_bytes : (x y : List ℕ) → pointwise nat_eq x y ≡ true → x ≡ y
same_bytes x y e = exact_bytes x y ((Equal-is (bytes_cmp x y)).0 (sym (texts_ties x y) ∙ e))

-- and the other way round
equal_bytes : (x y : List ℕ) → x ≡ y → pointwise nat_eq x y ≡ true
equal_bytes x y e =
    subst (λ z. pointwise nat_eq x z ≡ true) e (texts_ties x x ∙ ap is_eq (tied_itself nat_list_cmp_total x))

-- two positions of a list have the same item
pub record HaveSame (items : List (List ℕ)) (first second : ℕ) : Type 0 where
  pub earlier : first < second
  pub inside : second < length items
  pub same : get_or items first [] ≡ get_or items second []

-- the item at both
pub item_at_both : (items : List (List ℕ)) (i j : ℕ) → HaveSame items i j
    → (item : List ℕ) × (slice_get items i ≡ Some item) × (slice_get items j ≡ Some item)
item_at_both items i j h =
    let one = slice_get-get_or items i [] (omega (arith, h.earlier, h.inside)) in (
      get_or items j [],
      one ∙ ap Some h.same,
      slice_get-get_or items j [] h.inside,
    )

-- the two positions that a repeat has
pub repeated_at : (items : List (List ℕ)) → HasEqualItems (pointwise nat_eq) items
    → (i : ℕ) × (j : ℕ) × HaveSame items i j
repeated_at items (i, j, x, y, less, at, to, e) = (
  i,
  j,
  record {
    earlier = less;
    inside = slice_get_within items j y to;
    same = get_or_from_slice_get items i x [] at ∙ same_bytes x y e ∙ sym (get_or_from_slice_get items j y [] to);
  },
)

-- those of one among the first items
pub repeated_before : (items : List (List ℕ)) (k : ℕ) → k ≤ length items → HasEqualItems (pointwise nat_eq) (take k items)
    → (i : ℕ) × (j : ℕ) × (j < k) × HaveSame items i j
repeated_before items k most twice =
    let (i, j, h) = repeated_at (take k items) twice in
    let long = length-take-le k items most in
    let before : j < k = omega (arith, long, h.inside) in (
      i,
      j,
      before,
      record {
        earlier = h.earlier;
        inside = omega (arith, before, most);
        same = sym (get_or-take k items i [] (omega (arith, h.earlier, before))) ∙ h.same ∙ get_or-take k items j [] before;
      },
    )
