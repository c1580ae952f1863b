-- Lists in which two positions hold equal items, and what the builders return that refuse these.
use Rattle.std.specs.Prelude.{◌≡◌, ◌<◌, ◌≤◌, ℕ, Bool, IsTrue, List, MatchResult, Result, Some, length}
use Rattle.std.specs.List.{AllZip, slice_get}
use Rattle.std.specs.List.Sorted.{IsPermutation}
use Rattle.std.specs.declared.cmp.Ordering.{Ordering}
use Rattle.commonware_ordered.specs.Strict.{IsStrict}
use Rattle.commonware_ordered.specs.declared.error.Error.{Error}
use Rattle.commonware_ordered.specs.declared.error.Error.TheVariants.{DuplicateKey, DuplicateValue, Memory}

-- two positions of l hold equal items
abbrev pub HasEqualItems : {T : Type 0} → (T → T → Bool) → List T → Type 0
HasEqualItems {T} eq l =
    (i : ℕ) × (j : ℕ) × (x : T) × (y : T) × (i < j) × (slice_get l i ≡ Some x) × (slice_get l j ≡ Some y)
    × IsTrue (eq x y)

-- Keys at `DuplicateKey`, Values at `DuplicateValue`, and Something at `Memory`
abbrev pub MatchError : Error → Type 0 → Type 0 → Type 0 → Type 0
MatchError DuplicateKey Keys Values Something = Keys
MatchError DuplicateValue Keys Values Something = Values
MatchError Memory Keys Values Something = Something

-- set has all of l in order, and no two positions of l hold equal items
abbrev pub IsSetOfAll : {T : Type 0} → (T → T → Bool) → (T → T → Ordering) → List T → List T → Type 0
IsSetOfAll eq cmp l set = IsStrict cmp set × IsPermutation l set × (¬ HasEqualItems eq l)

-- l is refused since two of its positions hold equal items, or since an allocation failed, which is only where l has an
-- item
abbrev pub IsRefusedFor : {T : Type 0} → (T → T → Bool) → List T → Error → Type 0
IsRefusedFor eq l error = MatchError error (HasEqualItems eq l) ⊥ (1 ≤ length l)

-- the set of all of l, or why there is none
abbrev pub IsWholeSet : {T : Type 0} → (T → T → Bool) → (T → T → Ordering) → List T → Result (List T) Error → Type 0
IsWholeSet eq cmp l result = MatchResult result (IsSetOfAll eq cmp l) (IsRefusedFor eq l)

-- set has clones of all of l in order, and no two positions of l hold equal items
abbrev pub IsSetOfClones : {T : Type 0} → (T → T → Bool) → (T → T → Ordering) → (T → T → Type 0) → List T → List T
    → Type 0
IsSetOfClones {T} eq cmp Clone l set =
    (clones : List T) × AllZip Clone l clones × IsStrict cmp set × IsPermutation clones set × (¬ HasEqualItems eq l)

-- the set of clones of all of l, or why there is none
abbrev pub IsWholeSetOfClones : {T : Type 0} → (T → T → Bool) → (T → T → Ordering) → (T → T → Type 0) → List T
    → Result (List T) Error → Type 0
IsWholeSetOfClones eq cmp Clone l result = MatchResult result (IsSetOfClones eq cmp Clone l) (IsRefusedFor eq l)
