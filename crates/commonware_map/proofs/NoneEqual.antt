-- Equal items of a list that is read from its start.
use Rattle.std.specs.Prelude.{◌≡◌, Bool, true, false, List, Some, length, refl, slice_get}
use Rattle.std.specs.List.{list_any}
use Rattle.std.proofs.Common.{inl, inr, sym, ap, ◌∙◌, arith, take, get_or, ℕ, ◌<◌, ◌+◌}
use Rattle.std.proofs.lemmas.Bool.{cases_order}
use Rattle.std.proofs.lemmas.List.{get_or-take, length-take}
use Rattle.std.proofs.lemmas.List.Folds.{Any-from_list_any, list_any_at}
use Rattle.std.proofs.lemmas.Option.{get_or_from_slice_get, same_Some, slice_get_read, slice_get_within}
use mathlib.Core.Bool.{true≢false}
use Rattle.commonware_ordered.specs.Whole.{HasEqualItems}

module _ {X : Type 0} where
  -- an item of a prefix of a list is that item of the list
  in_front : (xs : List X) (n k : ℕ) (x : X) → slice_get (take n xs) k ≡ Some x → (k < n) × (k < length xs) × (x ≡ get_or xs k x)
  in_front xs n k x at =
      let within : k < length (take n xs) = slice_get_within (take n xs) k x at in
      let front : k < n = omega (arith, within, length-take n xs) in
      (front, omega (arith, within, length-take n xs), sym (get_or_from_slice_get (take n xs) k x x at) ∙ get_or-take n xs k x front)

  -- and the other way round
  stands_in_front : (xs : List X) (n k : ℕ) (x : X) → k < n → k < length xs → x ≡ get_or xs k x → slice_get (take n xs) k ≡ Some x
  stands_in_front xs n k x front within is =
      slice_get_read (take n xs) (length (take n xs)) k x refl (omega (arith, length-take n xs)) (is ∙ sym (get_or-take n xs k x front))

  module _ (eq : X → X → Bool) where
    -- where no two items of a prefix of a list are equal, and none of them equals the next item, no two are equal with that item
    pub none_equal_more : (xs : List X) (i : ℕ) (x : X) → i < length xs → x ≡ get_or xs i x → ¬ HasEqualItems eq (take i xs) → list_any (λ y. eq y x) (take i xs) ≡ false → ¬ HasEqualItems eq (take (i + 1) xs)
    none_equal_more xs i x inside is none apart (a, b, y, z, before, at, later, same) =
        let p = in_front xs (i + 1) a y at in
        let q = in_front xs (i + 1) b z later in
        let first : slice_get (take i xs) a ≡ Some y = stands_in_front xs i a y (omega (arith, before, q.0)) p.1 p.2 in
        elim (cases_order b i) [
          | inl last ↦
              let level : z ≡ x =
              same_Some z x (sym (slice_get_read xs (length xs) b z refl q.1 q.2) ∙ (ap (slice_get xs) last ∙ slice_get_read xs (length xs) i x refl inside is)) in
              true≢false (sym (list_any_at (λ w. eq w x) (take i xs) a y (slice_get_within (take i xs) a y first)
              (ap (λ w. eq w x) (get_or_from_slice_get (take i xs) a y y first) ∙ (ap (eq y) (sym level) ∙ same))) ∙ apart)
          | inr (inl less) ↦ none (a, b, y, z, before, first, stands_in_front xs i b z less q.1 q.2, same)
          | inr (inr more) ↦ absurd (omega (arith, q.0, more))
        ]

    -- an item that equals one before it
    pub equal_items_found : (xs : List X) (i : ℕ) (x : X) → i < length xs → x ≡ get_or xs i x → list_any (λ y. eq y x) (take i xs) ≡ true → HasEqualItems eq xs
    equal_items_found xs i x inside is h =
        let a = Any-from_list_any (λ y. eq y x) (take i xs) h in
        let front : a.0 < i = omega (arith, a.2, length-take i xs) in
        (a.0, i, a.1, x, front, slice_get_read xs (length xs) a.0 a.1 refl (omega (arith, front)) (sym a.3 ∙ get_or-take i xs a.0 a.1 front), slice_get_read xs (length xs) i x refl inside is, a.4)
