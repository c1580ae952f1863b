-- What stays of a list where equal items count once.
use Rattle.std.specs.Prelude.{◌≡◌, ◌↔◌, ℕ, Bool, false, IsTrue, List, Some}
use Rattle.std.specs.Cmp.Lexicographic.{pointwise}
use Rattle.std.specs.List.{AllWithin, Contains, list_any, slice_get}
use Rattle.std.specs.declared.cmp.Ordering.{Ordering}
use Rattle.commonware_ordered.specs.Strict.{IsStrict}

-- x is in l at a position where no earlier item equals it
abbrev pub IsKept : {T : Type 0} → (T → T → Bool) → List T → T → Type 0
IsKept eq l x = (i : ℕ) × (slice_get l i ≡ Some x) × AllWithin (λ y. eq y x ≡ false) l 0 i

-- r is strictly increasing, so that it has each item once, and its items are exactly those that are kept of l
pub record IsDedup {T : Type 0} (eq : T → T → Bool) (cmp : T → T → Ordering) (l r : List T) : Type 0 where
  pub strict : IsStrict cmp r
  pub kept : (x : T) → Contains r x ↔ IsKept eq l x

-- both lists hold the same items, up to equality
abbrev pub HaveSameItems : {T : Type 0} → (T → T → Bool) → List T → List T → Type 0
HaveSameItems {T} eq xs ys = (x : T) → list_any (eq x) xs ≡ list_any (eq x) ys

-- r, which is the set of l, equals the set of another list exactly where l and that list hold the same items
abbrev pub EqualsSameItems : {T : Type 0} → (T → T → Bool) → (T → T → Ordering) → List T → List T → Type 0
EqualsSameItems {T} eq cmp l r = (other set : List T) → IsDedup eq cmp other set
    → IsTrue (pointwise eq r set) ↔ HaveSameItems eq l other
