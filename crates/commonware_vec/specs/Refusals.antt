-- Why no non-empty list was made.
use Rattle.std.specs.Prelude.{◌≡◌, ◌≤◌, Bool, List, MatchResult, Result, [], length, true}
use Rattle.std.specs.List.{AllZip}
use Rattle.commonware_vec.specs.declared.error.Error.{Error}
use Rattle.commonware_vec.specs.declared.error.Error.TheVariants.{Empty, Memory}

-- There is nothing at `Empty`, and something at `Memory`: where there are no items, nothing is allocated.
abbrev pub EmptyOrMemory : Error → Type 0 → Type 0 → Type 0
EmptyOrMemory Empty Nothing Something = Nothing
EmptyOrMemory Memory Nothing Something = Something

-- v has all of l, which has an item
abbrev pub IsAll : {T : Type 0} → List T → List T → Type 0
IsAll l v = (v ≡ l) × (1 ≤ length l)

-- drawn is refused since there was nothing to draw, or since an allocation failed once an item was drawn
abbrev pub IsRefusedForDrawn : {T : Type 0} → List T → Bool → Error → Type 0
IsRefusedForDrawn drawn ended error = EmptyOrMemory error ((drawn ≡ []) × (ended ≡ true)) (1 ≤ length drawn)

-- clones of all of l, which has an item, or why there are none; an allocation can fail only where l has an item
abbrev pub IsWholeOfClones : {T : Type 0} → (T → T → Type 0) → List T → Result (List T) Error → Type 0
IsWholeOfClones Clone l result =
    MatchResult result (λ v. AllZip Clone l v × (1 ≤ length l)) (λ error. EmptyOrMemory error (l ≡ []) (1 ≤ length l))
