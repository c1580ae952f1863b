-- Strictly increasing participants, and how many of n positions they are.
use Rattle.std.proofs.Common.{◌≡◌, ℕ, zero, suc, ◌+◌, ◌<◌, ◌≤◌, ◌||◌, Bool, true, false, cond, List, [], ◌∷◌, length}
use Rattle.std.proofs.Common.{map, get_or, refl, ap, subst, sym, ◌∙◌, arith, inl, inr, add-one}
use Rattle.std.specs.Prelude.{nat_eq, nat_lt}
use Rattle.std.proofs.Math.Nat.{eq-or-lt_of_le}
use Rattle.std.specs.List.{All, count_by, range_with_len}
use Rattle.std.specs.List.Sorted.{IsStrictlyIncreasing}
use Rattle.std.specs.Ordering.{nat_cmp}
use Rattle.std.proofs.lemmas.Bool.Decides.{nat_tests}
use Rattle.std.proofs.lemmas.Cmp.{nat_cmp_total}
use Rattle.std.proofs.lemmas.List.Elements.{All-cons, All-head, All-tail}
use Rattle.std.proofs.lemmas.List.Sums.{sum_by-cons}
use Rattle.std.proofs.lemmas.Map.Keys.{IsStrictlyIncreasing-from_sorted}
use Rattle.commonware_faults.specs.Subsets.{is_between, passing, size}
use Rattle.commonware_faults.specs.laws.SubsetSizeLaws.{size-agree, size-cons, size-places}
use Rattle.commonware_ordered.specs.Strict.{IsStrict}
use Rattle.commonware_ordered.specs.laws.StrictLaws.{sorted_from_strict}
use Rattle.commonware_ordered.specs.Voters.{is_among, members_among}

-- the numbers rise, from low on
abbrev pub RisesFrom : ℕ → List ℕ → Type 0
RisesFrom low [] = Unit {0}
RisesFrom low (x ∷ xs) = (low ≤ x) × RisesFrom (x + 1) xs

-- numbers that rise from one on rise from a lower one on
pub rises_lower : (high low : ℕ) (xs : List ℕ) → low ≤ high → RisesFrom high xs → RisesFrom low xs
rises_lower high low [] h r = tt
rises_lower high low (x ∷ xs) h r = (omega arith, r.1)

-- numbers each below the next rise
rises_from_increasing : (low : ℕ) (xs : List ℕ) → (0 < length xs → low ≤ get_or xs 0 0) → IsStrictlyIncreasing xs
    → RisesFrom low xs
rises_from_increasing low [] above h = tt
rises_from_increasing low (x ∷ xs) above h =
    let rest = rises_from_increasing (x + 1) xs (λ some. omega (arith, h 0 (omega arith)))
    (λ k below. let next = h (suc k) (omega arith) in simp add-one (simp add-one at next)) in
    (above (omega arith), rest)

-- strictly increasing numbers rise
pub rises_from_strict : (xs : List ℕ) → IsStrict nat_cmp xs → RisesFrom 0 xs
rises_from_strict xs h =
    let increasing = IsStrictlyIncreasing-from_sorted xs (sorted_from_strict nat_cmp_total xs h) in
    rises_from_increasing 0 xs (λ some. omega arith) increasing

-- each of the numbers is below n
abbrev AllBelow : ℕ → List ℕ → Type 0
AllBelow n [] = Unit {0}
AllBelow n (x ∷ xs) = (x < n) × AllBelow n xs

-- members are numbers below n
below_from_members : (n : ℕ) (xs : List ℕ) → All (λ p. p < n) xs → AllBelow n xs
below_from_members n [] h = tt
below_from_members n (x ∷ xs) h = (All-head (λ y. y < n) x xs h, below_from_members n xs (All-tail (λ y. y < n) x xs h))

-- where the last of numbers that rise is below n, all are
below_from_last : (low n last i : ℕ) (xs : List ℕ) → RisesFrom low xs → i + 1 ≡ length xs → last ≡ get_or xs i last
    → last < n → (low ≤ last) × AllBelow n xs
below_from_last low n last i [] r e at h = absurd (omega arith)
below_from_last low n last zero (x ∷ []) r e at h = (omega (arith, r.0, at), (omega (arith, at), tt))
below_from_last low n last zero (x ∷ y ∷ ys) r e at h = absurd (omega arith)
below_from_last low n last (suc i) (x ∷ []) r e at h = absurd (omega arith)
below_from_last low n last (suc i) (x ∷ y ∷ ys) r e at h =
    let rest = below_from_last (x + 1) n last i (y ∷ ys) r.1 (omega arith) at h in
    (omega (arith, r.0, rest.0), (omega (arith, rest.0), rest.1))

-- numbers below n are members
members_from_below : (n : ℕ) (xs : List ℕ) → AllBelow n xs → All (λ p. p < n) xs
members_from_below n [] b = λ k d h. absurd (omega arith)
members_from_below n (x ∷ xs) b = All-cons (λ y. y < n) x xs b.0 (members_from_below n xs b.1)

-- where the last of strictly increasing numbers is a member, all are
pub members_from_last : (n last i : ℕ) (xs : List ℕ) → IsStrict nat_cmp xs → i + 1 ≡ length xs
    → last ≡ get_or xs i last → last < n → All (λ p. p < n) xs
members_from_last n last i xs s e at h =
    members_from_below n xs (below_from_last 0 n last i xs (rises_from_strict xs s) e at h).1

-- what is below one number is below a greater
below_more : (m n : ℕ) (xs : List ℕ) → m ≤ n → AllBelow m xs → AllBelow n xs
below_more m n [] h b = tt
below_more m n (x ∷ xs) h b = (omega arith, below_more m n xs h b.1)

-- a number below all that rise isn't among them
pub not_among_below : (low : ℕ) (xs : List ℕ) (p : ℕ) → p < low → RisesFrom low xs → is_among xs p ≡ false
not_among_below low [] p h r = refl
not_among_below low (x ∷ xs) p h r =
    let rest = not_among_below (x + 1) xs p (omega arith) r.1 in
    grind (arith, nat_tests)

-- a number past the first is among all where it is among the others
pub among_after : (x : ℕ) (xs : List ℕ) (p : ℕ) → x < p → is_among (x ∷ xs) p ≡ is_among xs p
among_after x xs p h = grind (arith, nat_tests)

-- the first is among them
pub among_first : (x : ℕ) (xs : List ℕ) → is_among (x ∷ xs) x ≡ true
among_first x xs = grind (arith, nat_tests)

-- tests that agree from low on give subsets of one size
size_agree_from : (p q : ℕ → Bool) (low n : ℕ) → ((k : ℕ) → low ≤ k → p k ≡ q k)
    → size (map p (range_with_len low n)) ≡ size (map q (range_with_len low n))
size_agree_from p q low zero same = refl
size_agree_from p q low (suc n) same =
    let rest = size_agree_from p q (low + 1) n (λ k h. same k (omega arith)) in
    size-cons (p low) (map p (range_with_len (low + 1) n))
    ∙ ap (λ b. cond b 1 0 + size (map p (range_with_len (low + 1) n))) (same low (omega arith))
    ∙ ap (λ m. cond (q low) 1 0 + m) rest
    ∙ sym (size-cons (q low) (map q (range_with_len (low + 1) n)))

-- where none are listed, none pass
size_none : (low n : ℕ) → size (map (is_among []) (range_with_len low n)) ≡ 0
size_none low zero = refl
size_none low (suc n) = size_none (low + 1) n

-- one position more, which is the first listed
listed_here : (x : ℕ) (xs : List ℕ) (low n : ℕ) → low ≡ x
    → size (map (is_among (x ∷ xs)) (low ∷ range_with_len (low + 1) n))
    ≡ suc (size (map (is_among xs) (range_with_len (low + 1) n)))
listed_here x xs low n same =
    let here : is_among (x ∷ xs) low ≡ true = subst (λ y. is_among (x ∷ xs) y ≡ true) (sym same) (among_first x xs) in
    let later =
    size_agree_from (is_among (x ∷ xs)) (is_among xs) (low + 1) n (λ k h. among_after x xs k (omega arith)) in
    let all = size-cons (is_among (x ∷ xs) low) (map (is_among (x ∷ xs)) (range_with_len (low + 1) n)) in
    omega (arith, all, ap (λ (b : Bool). cond {A = ℕ} b 1 0) here, later)

-- one position more, which isn't listed
not_listed_here : (xs : List ℕ) (low n : ℕ) → RisesFrom (low + 1) xs
    → size (map (is_among xs) (low ∷ range_with_len (low + 1) n))
    ≡ size (map (is_among xs) (range_with_len (low + 1) n))
not_listed_here xs low n r =
    let here = not_among_below (low + 1) xs low (omega arith) r in
    let all = size-cons (is_among xs low) (map (is_among xs) (range_with_len (low + 1) n)) in
    omega (arith, all, ap (λ (b : Bool). cond {A = ℕ} b 1 0) here)

-- how many of the numbers are below n
abbrev count_below : ℕ → List ℕ → ℕ
count_below n xs = count_by (λ x. nat_lt x n) xs

-- one number more
count_below-cons : (n x : ℕ) (xs : List ℕ) → count_below n (x ∷ xs) ≡ cond (nat_lt x n) 1 0 + count_below n xs
count_below-cons n x xs = sum_by-cons (λ y. cond (nat_lt y n) 1 0) x xs

-- of numbers that rise from n on, none is below it
none_below : (n : ℕ) (xs : List ℕ) → RisesFrom n xs → count_below n xs ≡ 0
none_below n [] r = refl
none_below n (x ∷ xs) r =
    let rest = none_below n xs (rises_lower (x + 1) n xs (omega arith) r.1) in
    let low = r.0 in
    let here : nat_lt x n ≡ false = grind (arith, nat_tests) in
    count_below-cons n x xs ∙ omega (arith, rest, ap (λ (b : Bool). cond {A = ℕ} b 1 0) here)

-- as many of n positions from low on are among the numbers as numbers are below low + n
size_listed : (xs : List ℕ) (low n : ℕ) → RisesFrom low xs
    → size (map (is_among xs) (range_with_len low n)) ≡ count_below (low + n) xs
size_listed [] low n r = size_none low n
size_listed (x ∷ xs) low zero r =
    sym (ap (λ m. count_below m (x ∷ xs)) {x = low + 0} {y = low} (omega arith) ∙ none_below low (x ∷ xs) r)
size_listed (x ∷ xs) low (suc n) r =
    elim (eq-or-lt_of_le r.0) [
      | inl same ↦
          let rest = size_listed xs (low + 1) n (rises_lower (x + 1) (low + 1) xs (omega arith) r.1) in
          let here : nat_lt x (low + suc n) ≡ true = grind (arith, nat_tests) in
          let all = count_below-cons (low + suc n) x xs in
          let fewer = ap (λ m. count_below m xs) {x = low + suc n} {y = low + 1 + n} (omega arith) in
          listed_here x xs low n same ∙ ap suc rest
          ∙ omega (arith, all, fewer, ap (λ (b : Bool). cond {A = ℕ} b 1 0) here)
      | inr above ↦
          let rest = size_listed (x ∷ xs) (low + 1) n (omega arith, r.1) in
          not_listed_here (x ∷ xs) low n (omega arith, r.1) ∙ rest ∙ ap (λ m. count_below m (x ∷ xs)) (omega arith)
    ]

-- as many of the n positions are participants as participants are below n
pub size-members_among : (n : ℕ) (xs : List ℕ) → IsStrict nat_cmp xs
    → size (members_among n xs) ≡ count_by (λ x. nat_lt x n) xs
size-members_among n xs strict =
    size_listed xs 0 n (rises_from_strict xs strict) ∙ ap (λ m. count_below m xs) (omega arith)

-- numbers below n are all counted
all_below : (n : ℕ) (xs : List ℕ) → AllBelow n xs → count_below n xs ≡ length xs
all_below n [] b = refl
all_below n (x ∷ xs) b =
    let rest = all_below n xs b.1 in
    let low = b.0 in
    let here : nat_lt x n ≡ true = grind (arith, nat_tests) in
    count_below-cons n x xs ∙ omega (arith, rest, ap (λ (b : Bool). cond {A = ℕ} b 1 0) here)

-- participants that are members are as many as their positions
pub size-members_among-all : (n : ℕ) (xs : List ℕ) → IsStrict nat_cmp xs → All (λ p. p < n) xs
    → size (members_among n xs) ≡ length xs
size-members_among-all n xs strict members =
    size-members_among n xs strict ∙ all_below n xs (below_from_members n xs members)

-- what passes one of two tests is no more than what passes the one and what passes the other
size-or : (p q : ℕ → Bool) (ks : List ℕ) → size (map (λ k. p k || q k) ks) ≤ size (map p ks) + size (map q ks)
size-or p q [] = omega arith
size-or p q (k ∷ ks) =
    omega (
      arith,
      size-or p q ks,
      size-cons (p k || q k) (map (λ j. p j || q j) ks),
      size-cons (p k) (map p ks),
      size-cons (q k) (map q ks),
      cond_or (p k) (q k),
    )
  where
    cond_or : (a b : Bool) → cond (a || b) 1 0 ≤ cond a 1 0 + cond b 1 0
    cond_or true b = omega arith
    cond_or false b = omega arith

-- one number is at most one of n positions
size-one : (x n : ℕ) → size (passing (λ p. nat_eq x p) n) ≤ 1
size-one x n =
    let same = size-agree (λ p. nat_eq x p) (is_between x (x + 1)) (one_place x) (range_with_len 0 n) in
    omega (arith, same, size-places n x (x + 1))
  where
    one_place : (x p : ℕ) → nat_eq x p ≡ is_between x (x + 1) p
    one_place x p = grind (arith, nat_tests)

-- no more positions are among the participants than are listed, members or not, and however often
pub size-members_among-le : (n : ℕ) (xs : List ℕ) → size (members_among n xs) ≤ length xs
size-members_among-le n [] = omega (arith, size_none 0 n)
size-members_among-le n (x ∷ xs) =
    let either = size-or (λ p. nat_eq x p) (is_among xs) (range_with_len 0 n) in
    omega (arith, either, size-one x n, size-members_among-le n xs)
