-- Subsets of n positions, and what two of them share. A subset is a list of n truth values.
use Rattle.std.specs.Prelude.{◌≡◌, ℕ, suc, ◌+◌, ◌-◌, ◌*◌, ◌<◌, ◌≤◌, Bool, true, false, ◌&&◌, nat_le, nat_lt, Some}
use Rattle.std.specs.Prelude.{slice_get, List, [], ◌∷◌, length, map}
use Rattle.std.specs.List.{range_with_len}

-- the size of a subset: how many of its truth values are true
abbrev pub size : List Bool → ℕ
size [] = 0
size (true ∷ rest) = suc (size rest)
size (false ∷ rest) = size rest

-- how many places are true in both
abbrev pub shared : List Bool → List Bool → ℕ
shared [] other = 0
shared (x ∷ rest) [] = 0
shared (true ∷ rest) (true ∷ others) = suc (shared rest others)
shared (true ∷ rest) (false ∷ others) = shared rest others
shared (false ∷ rest) (y ∷ others) = shared rest others

-- every subset of n positions of size a and every one of size b share at least k
pub record Overlap (n a b k : ℕ) : Type 0 where
  pub shares : (first second : List Bool) → length first ≡ n → length second ≡ n → size first ≡ a → size second ≡ b
      → k ≤ shared first second

-- every subset of at least a of n positions and every one of at least b share at least k
pub record OverlapAtLeast (n a b k : ℕ) : Type 0 where
  pub shares : (first second : List Bool) → length first ≡ n → length second ≡ n → a ≤ size first → b ≤ size second
      → k ≤ shared first second

-- f is the greatest number, up to n, for which any two subsets of n - f share at least `needed f`
pub record GreatestFor (needed : ℕ → ℕ) (n f : ℕ) : Type 0 where
  pub at_most : f ≤ n
  pub overlaps : Overlap n (n - f) (n - f) (needed f)
  pub greatest : (g : ℕ) → f < g → g ≤ n → Overlap n (n - g) (n - g) (needed g) → ⊥

-- f is the greatest number, up to n, for which any two subsets of n - f share at least (k - 2)f + 1: 1 at a k of 2,
-- f + 1 at 3, 3f + 1 at 5
abbrev pub Greatest : ℕ → ℕ → ℕ → Type 0
Greatest k n f = GreatestFor (λ g. (k - 2) * g + 1) n f

-- f is the greatest number for which any two subsets of n - f share at least f + 1
abbrev pub Greatest3 : ℕ → ℕ → Type 0
Greatest3 n f = GreatestFor (λ g. g + 1) n f

-- f is the greatest number for which any two subsets of n - f share at least 3f + 1
abbrev pub Greatest5 : ℕ → ℕ → Type 0
Greatest5 n f = GreatestFor (λ g. 3 * g + 1) n f

-- m is the least size, up to n, whose subsets share at least f + 1 with each of size n - f
pub record LeastM (n f m : ℕ) : Type 0 where
  pub at_most : m ≤ n
  pub overlaps : Overlap n (n - f) m (f + 1)
  pub least : (k : ℕ) → k < m → Overlap n (n - f) k (f + 1) → ⊥

-- position p is in the subset
abbrev pub IsIn : List Bool → ℕ → Type 0
IsIn subset p = slice_get subset p ≡ Some true

-- position p is one of the positions, and not in the subset
abbrev pub IsOutside : List Bool → ℕ → Type 0
IsOutside subset p = slice_get subset p ≡ Some false

-- two subsets of at least q of n positions share a position outside any subset of at most f
pub record MeetsOutside (n q f : ℕ) : Type 0 where
  pub meets : (first second faulty : List Bool) → length first ≡ n → length second ≡ n → length faulty ≡ n
      → q ≤ size first → q ≤ size second → size faulty ≤ f → (p : ℕ) × IsIn first p × IsIn second p × IsOutside faulty p

-- the subset of the n positions that pass a test
abbrev pub passing : (ℕ → Bool) → ℕ → List Bool
passing test n = map test (range_with_len 0 n)

-- whether a position is from start on and below end
abbrev pub is_between : ℕ → ℕ → ℕ → Bool
is_between start end p = nat_le start p && nat_lt p end

-- the subset of n positions that are from start on and below end
abbrev pub places : ℕ → ℕ → ℕ → List Bool
places n start end = passing (is_between start end) n
