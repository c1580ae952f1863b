-- Lists of bytes are in the order of the numbers that their first bytes encode, and then of the rest.
use Rattle.std.specs.Cmp.Lexicographic.{slice_cmp}
use Rattle.std.specs.Slice.Scan.{big_endian}
use Rattle.std.specs.Ordering.{ordering_then}
use Rattle.std.proofs.Common.{◌≡◌, ℕ, zero, suc, ◌+◌, ◌*◌, ◌<◌, ◌≤◌, List, [], ◌∷◌, ◌++◌, length, min, get_or, take, drop, length-drop, nat_cmp, Ordering, Less, Equal, Greater, arith, ap, sym, subst, refl, ◌∙◌}
use Rattle.std.proofs.lemmas.List.{drop-take, take-take}
use Rattle.std.proofs.Math.Seq.{take-add}
use Rattle.std.proofs.lemmas.Map.Lookups.{exact_unsigned}
use Rattle.std.proofs.lemmas.Cmp.{by_ranked, ranked, nat_cmp_total, tied_itself}
use Rattle.commonware_sequence.specs.BigEndian.{number_at, HaveSamePrefix}

-- each number of the list is a byte
abbrev pub Bytes : List ℕ → Type 0
Bytes xs = (k : ℕ) → get_or xs k 0 < 256

-- what is past n bytes of them is bytes
pub bytes_past : (n : ℕ) (xs : List ℕ) → Bytes xs → Bytes (drop n xs)
bytes_past zero xs h = h
bytes_past (suc n) [] h = λ k. omega arith
bytes_past (suc n) (x ∷ xs) h = bytes_past n xs (λ k. h (suc k))

-- of two numbers the lesser stays the lesser, whatever n bytes are written after each
numbers_less : (n : ℕ) (xs ys : List ℕ) (a b : ℕ) → n ≤ length xs → n ≤ length ys → Bytes xs → Bytes ys → a < b
    → big_endian a (take n xs) < big_endian b (take n ys)
numbers_less zero xs ys a b p q h g less = less
numbers_less (suc n) [] ys a b p q h g less = absurd (omega (arith, p))
numbers_less (suc n) (x ∷ xs) [] a b p q h g less = absurd (omega (arith, q))
numbers_less (suc n) (x ∷ xs) (y ∷ ys) a b p q h g less =
    let small : x < 256 = h 0 in
    numbers_less n xs ys (a * 256 + x) (b * 256 + y) (omega (arith, p)) (omega (arith, q)) (λ k. h (suc k)) (λ k. g (suc k)) (omega arith)

less : (a b : ℕ) → a < b → nat_cmp a b ≡ Less
less a b l = by_ranked (a < b) (a ≡ b) (b < a) (nat_cmp a b) (ranked a b _ refl) (λ e _. e) (λ _ s. absurd (omega arith)) (λ _ g. absurd (omega arith))

greater : (a b : ℕ) → b < a → nat_cmp a b ≡ Greater
greater a b l = by_ranked (a < b) (a ≡ b) (b < a) (nat_cmp a b) (ranked a b _ refl) (λ _ s. absurd (omega arith)) (λ _ s. absurd (omega arith)) (λ e _. e)

-- a and b decide where x and y do, and as they do
decided_as : (x y a b : ℕ) (r s : Ordering) → (x < y → a < b) → (y < x → b < a) → (x ≡ y → r ≡ ordering_then (nat_cmp a b) s)
    → ordering_then (nat_cmp x y) r ≡ ordering_then (nat_cmp a b) s
decided_as x y a b r s up down same = by_ranked (x < y) (x ≡ y) (y < x) (nat_cmp x y) (ranked x y _ refl)
    (λ e l. ap (λ o. ordering_then o r) e ∙ sym (ap (λ o. ordering_then o s) (less a b (up l))))
    (λ e l. ap (λ o. ordering_then o r) e ∙ same l)
    (λ e l. ap (λ o. ordering_then o r) e ∙ sym (ap (λ o. ordering_then o s) (greater a b (down l))))

-- lists compare as the numbers that n bytes of each encode after one number, and then as the rest
numbers_in_order : (n : ℕ) (xs ys : List ℕ) (a : ℕ) → n ≤ length xs → n ≤ length ys → Bytes xs → Bytes ys
    → slice_cmp nat_cmp xs ys ≡ ordering_then (nat_cmp (big_endian a (take n xs)) (big_endian a (take n ys))) (slice_cmp nat_cmp (drop n xs) (drop n ys))
numbers_in_order zero xs ys a p q h g = sym (ap (λ o. ordering_then o (slice_cmp nat_cmp xs ys)) (tied_itself nat_cmp_total a))
numbers_in_order (suc n) [] ys a p q h g = absurd (omega (arith, p))
numbers_in_order (suc n) (x ∷ xs) [] a p q h g = absurd (omega (arith, q))
numbers_in_order (suc n) (x ∷ xs) (y ∷ ys) a p q h g =
    let p1 : n ≤ length xs = omega (arith, p) in
    let q1 : n ≤ length ys = omega (arith, q) in
    let h1 : Bytes xs = λ k. h (suc k) in
    let g1 : Bytes ys = λ k. g (suc k) in
    let small : x < 256 = h 0 in
    let small_too : y < 256 = g 0 in
    let rest = slice_cmp nat_cmp (drop n xs) (drop n ys) in
    decided_as x y (big_endian (a * 256 + x) (take n xs)) (big_endian (a * 256 + y) (take n ys)) (slice_cmp nat_cmp xs ys) rest
    (λ l. numbers_less n xs ys (a * 256 + x) (a * 256 + y) p1 q1 h1 g1 (omega arith))
    (λ l. numbers_less n ys xs (a * 256 + y) (a * 256 + x) q1 p1 g1 h1 (omega arith))
    (λ e. subst (λ z. slice_cmp nat_cmp xs ys ≡ ordering_then (nat_cmp (big_endian (a * 256 + x) (take n xs)) (big_endian (a * 256 + z) (take n ys))) rest) e
    (numbers_in_order n xs ys (a * 256 + x) p1 q1 h1 g1))

-- numbers that are the same are so for the same bytes
numbers_same : (n : ℕ) (xs ys : List ℕ) (a b : ℕ) → n ≤ length xs → n ≤ length ys → Bytes xs → Bytes ys
    → big_endian a (take n xs) ≡ big_endian b (take n ys) → (a ≡ b) × (take n xs ≡ take n ys)
numbers_same zero xs ys a b p q h g e = (e, refl)
numbers_same (suc n) [] ys a b p q h g e = absurd (omega (arith, p))
numbers_same (suc n) (x ∷ xs) [] a b p q h g e = absurd (omega (arith, q))
numbers_same (suc n) (x ∷ xs) (y ∷ ys) a b p q h g e =
    let small : x < 256 = h 0 in
    let small_too : y < 256 = g 0 in
    let (first, rest) = numbers_same n xs ys (a * 256 + x) (b * 256 + y) (omega (arith, p)) (omega (arith, q)) (λ k. h (suc k)) (λ k. g (suc k)) e in
    let byte : x ≡ y = omega arith in
    (omega arith, ap (λ z. z ∷ take n xs) byte ∙ ap (λ l. y ∷ l) rest)

-- ---- from a place on

-- lists with the same first byte compare as what follows it
first_same : (x y : ℕ) (xs ys : List ℕ) → x ≡ y → slice_cmp nat_cmp (x ∷ xs) (y ∷ ys) ≡ slice_cmp nat_cmp xs ys
first_same x y xs ys e =
    ap (λ o. ordering_then o (slice_cmp nat_cmp xs ys)) (ap (λ z. nat_cmp x z) (sym e) ∙ tied_itself nat_cmp_total x)

-- lists that begin with the same bytes compare as what is past these
past_same : (i : ℕ) (xs ys : List ℕ) → HaveSamePrefix i xs ys → slice_cmp nat_cmp xs ys ≡ slice_cmp nat_cmp (drop i xs) (drop i ys)
past_same zero xs ys same = refl
past_same (suc i) [] [] same = refl
past_same (suc i) [] (y ∷ ys) same = absurd (omega (arith, ap length same))
past_same (suc i) (x ∷ xs) [] same = absurd (omega (arith, ap length same))
past_same (suc i) (x ∷ xs) (y ∷ ys) same =
    first_same x y xs ys (ap (λ l. get_or l 0 x) same) ∙ past_same i xs ys (ap (drop 1) same)

-- what decides is the order
then_apart : (o rest : Ordering) → ¬ (o ≡ Equal) → ordering_then o rest ≡ o
then_apart Less rest other = refl
then_apart Greater rest other = refl
then_apart Equal rest other = absurd (other refl)

-- words that differ tell the order
pub word_decides : (i : ℕ) (xs ys : List ℕ) → i + 8 ≤ length xs → i + 8 ≤ length ys → Bytes xs → Bytes ys
    → HaveSamePrefix i xs ys → ¬ (number_at 8 i xs ≡ number_at 8 i ys)
    → nat_cmp (number_at 8 i xs) (number_at 8 i ys) ≡ slice_cmp nat_cmp xs ys
word_decides i xs ys p q h g same other =
    let p1 : 8 ≤ length (drop i xs) = omega (arith, p, length-drop i xs) in
    let q1 : 8 ≤ length (drop i ys) = omega (arith, q, length-drop i ys) in
    let numbers = nat_cmp (number_at 8 i xs) (number_at 8 i ys) in
    let rest = slice_cmp nat_cmp (drop 8 (drop i xs)) (drop 8 (drop i ys)) in
    sym (past_same i xs ys same ∙ numbers_in_order 8 (drop i xs) (drop i ys) 0 p1 q1 (bytes_past i xs h) (bytes_past i ys g)
    ∙ then_apart numbers rest (λ e. other (exact_unsigned (number_at 8 i xs) (number_at 8 i ys) e)))

-- the same bytes are the same words
pub same_word : (i : ℕ) (xs ys : List ℕ) → HaveSamePrefix (i + 8) xs ys → number_at 8 i xs ≡ number_at 8 i ys
same_word i xs ys same = ap (big_endian 0) (sym (drop-take i 8 xs) ∙ ap (drop i) same ∙ drop-take i 8 ys)

-- and words that are the same are the same bytes
pub word_on : (i : ℕ) (xs ys : List ℕ) → i + 8 ≤ length xs → i + 8 ≤ length ys → Bytes xs → Bytes ys
    → HaveSamePrefix i xs ys → number_at 8 i xs ≡ number_at 8 i ys → HaveSamePrefix (i + 8) xs ys
word_on i xs ys p q h g same e =
    let p1 : 8 ≤ length (drop i xs) = omega (arith, p, length-drop i xs) in
    let q1 : 8 ≤ length (drop i ys) = omega (arith, q, length-drop i ys) in
    let (_, words) = numbers_same 8 (drop i xs) (drop i ys) 0 0 p1 q1 (bytes_past i xs h) (bytes_past i ys g) e in
    take-add i 8 xs ∙ ap (λ l. l ++ take 8 (drop i xs)) same ∙ ap (λ l. take i ys ++ l) words ∙ sym (take-add i 8 ys)

-- numbers that are one more each compare as before
one_more : (a b : ℕ) → nat_cmp (suc a) (suc b) ≡ nat_cmp a b
one_more a b = by_ranked (a < b) (a ≡ b) (b < a) (nat_cmp a b) (ranked a b _ refl)
    (λ e l. less (suc a) (suc b) (omega arith) ∙ sym e)
    (λ e l. ap (λ z. nat_cmp (suc a) (suc z)) (sym l) ∙ tied_itself nat_cmp_total (suc a) ∙ sym e)
    (λ e g. greater (suc a) (suc b) (omega arith) ∙ sym e)

-- lists of which the shorter is the other's prefix are in the order of their lengths
pub lengths_decide : (n : ℕ) (xs ys : List ℕ) → n ≡ min (length xs) (length ys) → HaveSamePrefix n xs ys
    → nat_cmp (length xs) (length ys) ≡ slice_cmp nat_cmp xs ys
lengths_decide n [] [] is same = refl
lengths_decide n [] (y ∷ ys) is same = less 0 (suc (length ys)) (omega arith)
lengths_decide n (x ∷ xs) [] is same = greater (suc (length xs)) 0 (omega arith)
lengths_decide zero (x ∷ xs) (y ∷ ys) is same = absurd (omega (arith, is))
lengths_decide (suc n) (x ∷ xs) (y ∷ ys) is same =
    one_more (length xs) (length ys) ∙ lengths_decide n xs ys (omega (arith, is)) (ap (drop 1) same) ∙ sym (first_same x y xs ys (ap (λ l. get_or l 0 x) same))

-- lists that begin with the same bytes begin with the same fewer ones
pub fewer_same : (i n : ℕ) (xs ys : List ℕ) → i ≤ n → HaveSamePrefix n xs ys → HaveSamePrefix i xs ys
fewer_same i n xs ys le same = sym (take-take i n xs le) ∙ ap (take i) same ∙ take-take i n ys le
