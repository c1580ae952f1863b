-- Which numbers of faults the sizes of subsets allow.
use Rattle.std.proofs.Common.{◌≡◌, ℕ, zero, suc, ◌+◌, ◌-◌, ◌*◌, ◌<◌, ◌≤◌, Bool, true, false, ◌&&◌, List}
use Rattle.std.proofs.Common.{[], ◌∷◌, length, refl, ap, sym, ◌∙◌, arith}
use Rattle.commonware_faults.specs.Subsets.{size, shared, places, Overlap, OverlapAtLeast}
use Rattle.commonware_faults.specs.Subsets.{LeastM, IsIn, IsOutside, MeetsOutside}
use Rattle.commonware_faults.specs.laws.SubsetSizeLaws.{size-le-shared, size-places, shared-places, length-passing}

-- subsets of sizes a and b share at least a + b - n
pub Overlap-by_size : (n a b k : ℕ) → k + n ≤ a + b → Overlap n a b k
Overlap-by_size n a b k h = record {
  shares = λ xs ys l m s t. omega (arith, size-le-shared xs ys (l ∙ sym m));
}

-- the first a and the last b of n positions share no more than a + b - n
pub Overlap-at_ends : (n a b k : ℕ) → a ≤ n → b ≤ n → Overlap n a b k → k ≤ a - (n - b)
Overlap-at_ends n a b k below_a below_b h =
    let first = places n 0 a in
    let last = places n (n - b) n in
    let size_first : size first ≡ a = omega (arith, size-places n 0 a) in
    let size_last : size last ≡ b = omega (arith, size-places n (n - b) n) in
    omega (
      arith,
      h.shares first last (length-passing _ n) (length-passing _ n) size_first size_last,
      shared-places n 0 a (n - b) n,
    )

-- what overlaps at two sizes overlaps at greater ones
pub Overlap-at_least : (n a b k : ℕ) → a ≤ n → b ≤ n → Overlap n a b k → OverlapAtLeast n a b k
Overlap-at_least n a b k below_a below_b h = record {
  shares = λ xs ys l m s t. omega (arith, Overlap-at_ends n a b k below_a below_b h, size-le-shared xs ys (l ∙ sym m));
}

-- twice f and one more is the least m by counting
pub LeastM-by_double : (n f : ℕ) → 2 * f + 1 ≤ n → LeastM n f (2 * f + 1)
LeastM-by_double n f low = record {
  at_most = omega arith;
  overlaps = Overlap-by_size n (n - f) (2 * f + 1) (f + 1) (omega arith);
  least = λ k below h. omega (arith, Overlap-at_ends n (n - f) k (f + 1) (omega arith) (omega arith) h);
}

-- with the least m, and f up to n, subsets of at least n - f and at least m share f + 1
pub LeastM-shares : (n f m : ℕ) → f ≤ n → LeastM n f m → OverlapAtLeast n (n - f) m (f + 1)
LeastM-shares n f m within h = Overlap-at_least n (n - f) m (f + 1) (omega arith) h.at_most h.overlaps

-- a subset with more members than another has one outside it
pub beyond : (large small : List Bool) → length large ≡ length small → size small < size large
    → (p : ℕ) × IsIn large p × IsOutside small p
beyond [] [] e h = absurd (omega arith)
beyond [] (y ∷ ys) e h = absurd (omega arith)
beyond (x ∷ xs) [] e h = absurd (omega arith)
beyond (true ∷ xs) (false ∷ ys) e h = (0, refl, refl)
beyond (true ∷ xs) (true ∷ ys) e h = let r = beyond xs ys (omega arith) (omega arith) in (suc r.0, r.1, r.2)
beyond (false ∷ xs) (true ∷ ys) e h = let r = beyond xs ys (omega arith) (omega arith) in (suc r.0, r.1, r.2)
beyond (false ∷ xs) (false ∷ ys) e h = let r = beyond xs ys (omega arith) (omega arith) in (suc r.0, r.1, r.2)

-- the places of both
both : List Bool → List Bool → List Bool
both [] ys = []
both (x ∷ xs) [] = []
both (x ∷ xs) (y ∷ ys) = (x && y) ∷ both xs ys

-- there are as many places of both as are shared
size-both : (xs ys : List Bool) → size (both xs ys) ≡ shared xs ys
unfolding both
size-both [] ys = refl
size-both (x ∷ xs) [] = refl
size-both (true ∷ xs) (true ∷ ys) = ap suc (size-both xs ys)
size-both (true ∷ xs) (false ∷ ys) = size-both xs ys
size-both (false ∷ xs) (true ∷ ys) = size-both xs ys
size-both (false ∷ xs) (false ∷ ys) = size-both xs ys

-- the places of both are places of the same positions
length-both : (xs ys : List Bool) → length xs ≡ length ys → length (both xs ys) ≡ length xs
unfolding both
length-both [] ys e = refl
length-both (x ∷ xs) [] e = absurd (omega arith)
length-both (x ∷ xs) (y ∷ ys) e = omega (arith, length-both xs ys (omega arith))

-- a place of both is a place of each
IsIn-both : (xs ys : List Bool) (p : ℕ) → IsIn (both xs ys) p → IsIn xs p × IsIn ys p
unfolding both
IsIn-both [] ys p h = absurd (cc)
IsIn-both (x ∷ xs) [] p h = absurd (cc)
IsIn-both (true ∷ xs) (true ∷ ys) zero h = (refl, refl)
IsIn-both (true ∷ xs) (false ∷ ys) zero h = absurd (cc)
IsIn-both (false ∷ xs) (y ∷ ys) zero h = absurd (cc)
IsIn-both (x ∷ xs) (y ∷ ys) (suc p) h = IsIn-both xs ys p h

-- subsets that share more than f positions share one outside any f
pub MeetsOutside-by_overlap : (n q f : ℕ) → q ≤ n → Overlap n q q (f + 1) → MeetsOutside n q f
MeetsOutside-by_overlap n q f within h = record {
  meets = λ xs ys zs l m o s t u.
      let common : f + 1 ≤ shared xs ys = (Overlap-at_least n q q (f + 1) within within h).shares xs ys l m s t in
      let same : length (both xs ys) ≡ length zs = length-both xs ys (l ∙ sym m) ∙ l ∙ sym o in
      let more : size zs < size (both xs ys) = omega (arith, size-both xs ys) in
      let r = beyond (both xs ys) zs same more in
      let w = IsIn-both xs ys r.0 r.1 in
      (r.0, w.0, w.1, r.2);
}

-- where 3f + 1 is up to n, two subsets of n - f share a position outside any f
pub MeetsOutside-by_thirds : (n f : ℕ) → 3 * f + 1 ≤ n → MeetsOutside n (n - f) f
MeetsOutside-by_thirds n f h =
    MeetsOutside-by_overlap n (n - f) f (omega arith) (Overlap-by_size n (n - f) (n - f) (f + 1) (omega arith))
