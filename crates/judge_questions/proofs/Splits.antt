-- A list that is split at each element that passes a test, and the first place of such an element.
use Rattle.std.proofs.Common.{◌≡◌, ℕ, ◌+◌, ◌-◌, ◌≤◌, Bool, true, false, cond, not, List, [], ◌∷◌, length, take, drop, Some, None, position, refl, ap, sym, arith, ◌∙◌, nat_lt}
use Rattle.std.specs.List.{onto_first, position_or_len, slice_split}
use Rattle.std.proofs.lemmas.Bool.{ltb-true}
use Rattle.std.proofs.lemmas.Bool.Decides.{nat_tests}
use Rattle.std.proofs.lemmas.List.{take_rest}
use Rattle.std.proofs.lemmas.List.Splits.{slice_split_first}

-- a place that was found
some_place : (b : Bool) (a i : ℕ) → cond b (Some a) None ≡ Some i → (b ≡ true) × (a ≡ i)
some_place true a i e = (refl, cc)
some_place false a i e = absurd (cc)

-- and none
no_place : (b : Bool) (a : ℕ) → cond b (Some a) None ≡ None → b ≡ false
no_place true a e = absurd (cc)
no_place false a e = refl

-- one more element that fails
one_part : {X : Type 0} (b : Bool) (n : ℕ) (x : X) (xs : List X) (parts : List (List X)) → length (x ∷ xs) ≤ cond (not b) (1 + n) 0 → (length xs ≤ n → parts ≡ xs ∷ []) → cond b ([] ∷ parts) (onto_first x parts) ≡ (x ∷ xs) ∷ []
one_part true n x xs parts h rest = absurd (omega arith)
one_part false n x xs parts h rest = ap (onto_first x) (rest (omega arith))

-- where no element passes, the list is the one part
uncut : {X : Type 0} (p : X → Bool) (xs : List X) → length xs ≤ position_or_len p xs → slice_split p xs ≡ xs ∷ []
uncut p [] h = refl
uncut p (x ∷ xs) h = one_part (p x) (position_or_len p xs) x xs (slice_split p xs) h (uncut p xs)

-- split at the place that `position` gives
pub cut_at_place : (p : ℕ → Bool) (xs : List ℕ) (i : ℕ) → position p xs ≡ Some i → slice_split p xs ≡ take i xs ∷ slice_split p (drop (i + 1) xs)
cut_at_place p xs i e =
    let (inside, is) = some_place (nat_lt (position_or_len p xs) (length xs)) (position_or_len p xs) i e in
    slice_split_first p xs 0 (ltb-true (position_or_len p xs) (length xs) inside) ∙ ap (λ n. take n xs ∷ slice_split p (drop (n + 1) xs)) is

-- the same, where what follows is taken to its end
pub cut_at_place_rest : (p : ℕ → Bool) (xs : List ℕ) (i : ℕ) → position p xs ≡ Some i → slice_split p xs ≡ take i xs ∷ slice_split p (take (length xs - (i + 1)) (drop (i + 1) xs))
cut_at_place_rest p xs i e = cut_at_place p xs i e ∙ ap (λ rest. take i xs ∷ slice_split p rest) (sym (take_rest xs (i + 1)))

-- not split where `position` gives none
pub cut_nowhere : (p : ℕ → Bool) (xs : List ℕ) → position p xs ≡ None → slice_split p xs ≡ xs ∷ []
cut_nowhere p xs e =
    let outside : nat_lt (position_or_len p xs) (length xs) ≡ false = no_place (nat_lt (position_or_len p xs) (length xs)) (position_or_len p xs) e in
    uncut p xs (grind (arith, nat_tests))
