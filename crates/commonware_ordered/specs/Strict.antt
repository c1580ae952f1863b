-- Strictly increasing lists, and the place of an item in a list.
use Rattle.std.specs.Prelude.{◌≡◌, ◌+◌, ◌<◌, ◌≤◌, ℕ, Bool, false, true, List, length, MatchOption, Option, Some}
use Rattle.std.specs.Prelude.{slice_get, slice_index_or}
use Rattle.std.specs.List.{All, AllAdjacentBelow, HoldsAt}
use Rattle.std.specs.declared.cmp.Ordering.{Ordering}
use Rattle.std.specs.declared.cmp.Ordering.TheVariants.{Less}

-- strictly increasing: each item is less than the next
abbrev pub IsStrict : {T : Type 0} → (T → T → Ordering) → List T → Type 0
IsStrict cmp xs = AllAdjacentBelow (λ x y. cmp x y ≡ Less) xs (length xs)

-- the item at place k is less than the next
abbrev pub IsLessThanNext : {T : Type 0} → (T → T → Ordering) → List T → ℕ → Type 0
IsLessThanNext {T} cmp xs k = (d : T) → cmp (slice_index_or xs k d) (slice_index_or xs (k + 1) d) ≡ Less

-- place is that of an item that equals x, or `None` where no item does
abbrev pub IsPlaceOf : {T : Type 0} → (T → T → Bool) → List T → T → Option ℕ → Type 0
IsPlaceOf eq xs x place =
    MatchOption place (All (λ y. eq y x ≡ false) xs) (λ i. (i < length xs) × HoldsAt (λ y. eq y x ≡ true) xs i)

-- an item that equals x is at place p
abbrev pub HasEqualAt : {T : Type 0} → (T → T → Bool) → List T → T → ℕ → Type 0
HasEqualAt {T} eq xs x p = (y : T) × (slice_get xs p ≡ Some y) × (eq y x ≡ true)

-- where an item equals x, its place is one of `size` places from `base` on
abbrev pub IsWithin : {T : Type 0} → (T → T → Bool) → List T → T → ℕ → ℕ → Type 0
IsWithin eq xs x base size = (k : ℕ) → k < length xs → HoldsAt (λ y. eq y x ≡ true) xs k
    → (base ≤ k) × (k < base + size)
