-- Pairs that are compared by their keys or by both parts, equality of lists of them, iterators over them, and the text
-- of a pair.
use Rattle.std.specs.Prelude.{◌≡◌, ◌<◌, ◌^◌, ℕ, Bool, ◌&&◌, List, Option, Some, codes, length}
use Rattle.std.specs.Cmp.Lexicographic.{pointwise}
use Rattle.std.specs.Fmt.{◌++?◌}
use Rattle.std.specs.Map.Iter.{GivesInOrder, GivesInReverse, ShowsInOrder, ShowsInReverse, deref_pair}

-- what is said of two keys, said of two pairs by their keys
abbrev pub on_keys : {K V R : Type 0} → (K → K → R) → K × V → K × V → R
on_keys of_keys p q = of_keys p.0 q.0

-- one thing is true of the keys of two pairs, and another of their values
abbrev pub on_both : {K V : Type 0} → (K → K → Type 0) → (V → V → Type 0) → K × V → K × V → Type 0
on_both of_keys of_values p q = of_keys p.0 q.0 × of_values p.1 q.1

-- left are the pairs of the map; each run from one end gives what is left in order, and from the other end in reverse
abbrev pub GivesPairsOf : {K V : Type 0} → List (K × V) → List (K × V) → Type 0
GivesPairsOf {K} {V} map left =
    (left ≡ map) × (length map < 2 ^ 64) × GivesInOrder (K × V) × GivesInReverse (K × V)

-- the same of references, which show the pairs
abbrev pub ShowsPairsOf : {K V : Type 0} → List (K × V) → List (K × V) → Type 0
ShowsPairsOf {K} {V} map left =
    (left ≡ map) × (length map < 2 ^ 64) × ShowsInOrder (deref_pair {K = K} {X = V})
    × ShowsInReverse (deref_pair {K = K} {X = V})

-- `(k, v)`, where both texts are known
abbrev pub pair_text : Option (List ℕ) → Option (List ℕ) → Option (List ℕ)
pair_text key value = Some (codes "(") ++? key ++? Some (codes ", ") ++? value ++? Some (codes ")")

module _ {K V : Type 0} (key_eq : K → K → Bool) (value_eq : V → V → Bool) where
  -- both parts are equal
  abbrev pub is_equal_pair : K × V → K × V → Bool
  is_equal_pair p q = key_eq p.0 q.0 && value_eq p.1 q.1

  -- as many pairs, equal place by place
  abbrev pub are_equal_pairs : List (K × V) → List (K × V) → Bool
  are_equal_pairs = pointwise is_equal_pair
