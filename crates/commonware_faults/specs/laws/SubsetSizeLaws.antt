-- The sizes of subsets, and how many places two of them share.
use Rattle.std.proofs.Common.{◌≡◌, ℕ, zero, suc, ◌+◌, ◌-◌, ◌<◌, ◌≤◌, min, max, Bool, true, false, cond, ◌&&◌, leb, ltb}
use Rattle.std.proofs.Common.{List, [], ◌∷◌, ◌++◌, get_or, length, map, take, refl, ap, sym, ◌∙◌, arith}
use Rattle.std.specs.List.{count_by, range_with_len}
use Rattle.std.proofs.lemmas.List.Sums.{count_by-le-length, sum_by-append, sum_by-cons, sum_by_more}
use Rattle.std.proofs.lemmas.List.FromFn.{length-map-range_with_len, map-range_with_len_more}
use Rattle.std.proofs.lemmas.Bool.Decides.{nat_tests}
use Rattle.commonware_faults.specs.Subsets.{size, shared, passing, is_between, places}

-- two subsets of n positions share at least what their sizes have above n
pub size-le-shared : (first second : List Bool) → length first ≡ length second
    → size first + size second ≤ length first + shared first second
size-le-shared [] [] h = omega arith
size-le-shared [] (y ∷ ys) h = absurd (omega arith)
size-le-shared (x ∷ xs) [] h = absurd (omega arith)
size-le-shared (true ∷ xs) (true ∷ ys) h = omega (arith, size-le-shared xs ys (omega arith))
size-le-shared (true ∷ xs) (false ∷ ys) h = omega (arith, size-le-shared xs ys (omega arith))
size-le-shared (false ∷ xs) (true ∷ ys) h = omega (arith, size-le-shared xs ys (omega arith))
size-le-shared (false ∷ xs) (false ∷ ys) h = omega (arith, size-le-shared xs ys (omega arith))

-- one place more
pub size-cons : (a : Bool) (xs : List Bool) → size (a ∷ xs) ≡ cond a 1 0 + size xs
size-cons true xs = omega arith
size-cons false xs = omega arith

-- the size counts the values that are true, so that std's laws of `count_by` are those of sizes
pub size-count_by : (xs : List Bool) → size xs ≡ count_by (λ b. b) xs
size-count_by [] = refl
size-count_by (x ∷ xs) =
    size-cons x xs ∙ ap (λ n. cond x 1 0 + n) (size-count_by xs) ∙ sym (sum_by-cons (λ b. cond b 1 0) x xs)

-- the size of two lists of values, one after the other
pub size-append : (xs ys : List Bool) → size (xs ++ ys) ≡ size xs + size ys
size-append xs ys =
    size-count_by (xs ++ ys) ∙ sum_by-append (λ b. cond b 1 0) xs ys
    ∙ omega (arith, size-count_by xs, size-count_by ys)

-- the first i values and one more
pub size-take_more : (xs : List Bool) (i : ℕ) (d : Bool) → i < length xs
    → size (take (i + 1) xs) ≡ size (take i xs) + cond (get_or xs i d) 1 0
size-take_more xs i d h =
    size-count_by (take (i + 1) xs) ∙ sum_by_more (λ b. cond b 1 0) xs i d h
    ∙ omega (arith, size-count_by (take i xs))

-- no more values are true than there are
pub size-le-length : (xs : List Bool) → size xs ≤ length xs
size-le-length xs = omega (arith, size-count_by xs, count_by-le-length (λ (b : Bool). b) xs)

-- one place more of two subsets
shared-cons : (a b : Bool) (xs ys : List Bool) → shared (a ∷ xs) (b ∷ ys) ≡ cond (a && b) 1 0 + shared xs ys
shared-cons true true xs ys = omega arith
shared-cons true false xs ys = omega arith
shared-cons false true xs ys = omega arith
shared-cons false false xs ys = omega arith

-- what two tests share is what passes both
pub shared-map : (p q : ℕ → Bool) (ks : List ℕ) → shared (map p ks) (map q ks) ≡ size (map (λ k. p k && q k) ks)
shared-map p q [] = refl
shared-map p q (k ∷ ks) =
    shared-cons (p k) (q k) (map p ks) (map q ks) ∙ ap (λ n. cond (p k && q k) 1 0 + n) (shared-map p q ks)
    ∙ sym (size-cons (p k && q k) (map (λ j. p j && q j) ks))

-- one position more, which is in the subset or not
pub size-passing_more : (test : ℕ → Bool) (n : ℕ)
    → size (passing test (n + 1)) ≡ size (passing test n) + cond (test n) 1 0
size-passing_more test n =
    ap size (map-range_with_len_more test 0 n n (omega arith)) ∙ size-append (passing test n) (test n ∷ [])
    ∙ omega (arith, size-cons (test n) [])

-- equal tests give subsets of one size
pub size-agree : (p q : ℕ → Bool) → ((k : ℕ) → p k ≡ q k) → (ks : List ℕ) → size (map p ks) ≡ size (map q ks)
size-agree p q same [] = refl
size-agree p q same (k ∷ ks) =
    let rest = size-agree p q same ks in
    size-cons (p k) (map p ks) ∙ ap (λ b. cond b 1 0 + size (map p ks)) (same k) ∙ ap (λ n. cond (q k) 1 0 + n) rest
    ∙ sym (size-cons (q k) (map q ks))

-- there are as many truth values as positions
pub length-passing : (test : ℕ → Bool) (n : ℕ) → length (passing test n) ≡ n
length-passing test n = length-map-range_with_len test 0 n

-- one position more of a range
one_more :
    (start end low n : ℕ) → cond (leb start low && ltb low end) 1 0 + (min end (low + 1 + n) - max start (low + 1))
    ≡ min end (low + suc n) - max start low
one_more start end low n = grind (arith, nat_tests)

-- how many of n positions from `low` on lie in a range
size-between :
    (start end low n : ℕ) → size (map (is_between start end) (range_with_len low n)) ≡ min end (low + n) - max start low
size-between start end low zero = omega arith
size-between start end low (suc n) =
    size-cons (is_between start end low) _ ∙ ap (λ k. cond (is_between start end low) 1 0 + k)
    (size-between start end (low + 1) n) ∙ one_more start end low n

-- how many of n positions lie in a range
pub size-places : (n start end : ℕ) → size (places n start end) ≡ min end n - start
size-places n start end = omega (arith, size-between start end 0 n)

-- what is in two ranges is in the range that both have
both_ranges : (a b c d k : ℕ) → (is_between a b k && is_between c d k) ≡ is_between (max a c) (min b d) k
both_ranges a b c d k = grind (arith, nat_tests)

-- how many of n positions lie in both of two ranges
pub shared-places : (n a b c d : ℕ) → shared (places n a b) (places n c d) ≡ min (min b d) n - max a c
shared-places n a b c d =
    shared-map (is_between a b) (is_between c d) (range_with_len 0 n)
    ∙ size-agree _ _ (both_ranges a b c d) (range_with_len 0 n) ∙ size-places n (max a c) (min b d)
