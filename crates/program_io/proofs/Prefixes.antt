-- How long a part of some first bytes is.
use Rattle.std.proofs.Common.{◌≡◌, ◌≤◌, ◌++◌, ℕ, List, ap, arith, length, length-append, take}
use Rattle.std.proofs.lemmas.List.{length-take}

-- a prefix of the first n bytes has at most m bytes, where n is at most m
pub front_short : (n m : ℕ) (all front back : List ℕ) → n ≤ m → take n all ≡ front ++ back → length front ≤ m
front_short n m all front back few split =
    omega (arith, few, ap length split, length-append front back, length-take n all)
