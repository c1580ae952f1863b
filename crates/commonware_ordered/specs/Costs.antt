-- How many comparisons a call makes at most: there were `old`, and then there are `new`.
use Rattle.std.specs.Prelude.{◌≡◌, ◌⊎◌, ◌+◌, ◌-◌, ◌*◌, ◌<◌, ◌≤◌, ◌^◌, ◌++◌, ℕ, List, length}
use Rattle.std.specs.declared.cmp.Ordering.{Ordering}
use Rattle.commonware_base.specs.Lists.{list_enc}
use Rattle.commonware_base.specs.Varint.{varint}
use Rattle.commonware_ordered.specs.Strict.{IsLessThanNext}

-- a look-up among n items, of which k binary digits are enough: 1 + 3k/2
abbrev pub IsLookUpCost : ℕ → ℕ → ℕ → Type 0
IsLookUpCost n old new = (k : ℕ) → n < 2 ^ k → 2 * new ≤ 2 * old + 3 * k + 2

-- a check of the order of n items, each with the next
abbrev pub IsOrderCost : ℕ → ℕ → ℕ → Type 0
IsOrderCost n old new = new ≤ old + (n - 1)

-- a whole check of the order of n items, by a counter that takes one for each comparison: each was compared with the
-- next, and counted
abbrev pub IsWholeOrderCost : ℕ → ℕ → ℕ → ℕ → Type 0
IsWholeOrderCost step n old new = step ≡ 1 → old + (n - 1) ≤ new

-- a check of the order of a list that goes no further than the first item that isn't less than the next
abbrev pub StopsAtFault : {T : Type 0} → (T → T → Ordering) → List T → ℕ → ℕ → Type 0
StopsAtFault cmp items old new = (k : ℕ) → k + 1 < length items → ¬ IsLessThanNext cmp items k → new ≤ old + k + 1

-- The input begins with a list, and the order of that list was checked, no further than its first fault.
pub record ComparesList {T : Type 0} (enc : T → List ℕ) (cmp : T → T → Ordering) (text : List ℕ) (old new : ℕ) :
    Type 0 where
  pub items : List T
  pub rest : List ℕ
  pub short : length items < 2 ^ 32
  pub begins : text ≡ list_enc enc items ++ rest
  pub most : IsOrderCost (length items) old new
  pub stops : StopsAtFault cmp items old new

-- what decoding a list in order compares at most: nothing, or the items that the input begins with
abbrev pub IsReadCost : {T : Type 0} → (T → List ℕ) → (T → T → Ordering) → List ℕ → ℕ → ℕ → Type 0
IsReadCost enc cmp text old new = (new ≡ old) ⊎ ComparesList enc cmp text old new

-- The input states the length n: it begins with the varint of n.
pub record StatesLength (text : List ℕ) (n : ℕ) : Type 0 where
  pub rest : List ℕ
  pub short : n < 2 ^ 32
  pub begins : text ≡ varint n ++ rest
