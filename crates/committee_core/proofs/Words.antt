-- Lists of two words, and the commands that they give.
use Rattle.std.proofs.Common.{◌≡◌, ℕ, ◌<◌, ◌≤◌, List, [], ◌∷◌, length, get_or, map, codes, Some, ap, arith}
use Rattle.std.specs.declared.num.NonZeroU32.{NonZeroU32}
use Rattle.committee_core.specs.Command.{IsCount, IsAskedFor}
use Rattle.committee_core.specs.declared.command.Command.{Command}
use Rattle.committee_core.specs.declared.command.Command.TheVariants.{Read, Bounds}
use Rattle.committee_core.proofs.Counts.{one_count}

-- the bytes of a list of two items are a list of two words
pub two_words : {S : Type 0} (bytes : S → List ℕ) (words : List S) (first second : S) (word count : List ℕ) → 2 ≤ length words → length words < 3 → first ≡ get_or words 0 first → second ≡ get_or words 1 second → bytes first ≡ word → bytes second ≡ count → map bytes words ≡ word ∷ count ∷ []
two_words bytes [] first second word count some few is then e d = absurd (omega arith)
two_words bytes (a ∷ []) first second word count some few is then e d = absurd (omega arith)
two_words bytes (a ∷ b ∷ []) first second word count some few is then e d = cc
two_words bytes (a ∷ b ∷ c ∷ rest) first second word count some few is then e d = absurd (omega arith)

-- where the second of two words writes no count, they give no command
pub no_command : (words : List (List ℕ)) (word count : List ℕ) → words ≡ word ∷ count ∷ [] → ((n : NonZeroU32) → ¬ IsCount count n) → (command : Command) → ¬ IsAskedFor words command
no_command words word count are none Read asked = cc
no_command words word count are none (Bounds n) (digits, is, writes) = let same : digits ≡ count = cc in none n (rw same at writes)

-- where it writes n, `bounds` and it give nothing but the bounds of n
pub one_command : (words : List (List ℕ)) (count : List ℕ) (n : NonZeroU32) → words ≡ codes "bounds" ∷ count ∷ [] → IsCount count n → (command : Command) → IsAskedFor words command → Some (Bounds n) ≡ Some command
one_command words count n are writes Read asked = cc
one_command words count n are writes (Bounds m) (digits, is, other) =
    let same : digits ≡ count = cc in ap (λ k. Some (Bounds k)) (one_count count n m writes (rw same at other))
