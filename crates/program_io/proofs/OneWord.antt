-- A list of one word.
use Rattle.std.proofs.Common.{◌≡◌, ◌<◌, ◌≤◌, ◌∷◌, [], List, ℕ, ap, arith, get_or, length, map, sym, ◌∙◌}

-- the bytes of a list of one item are a list of one word
pub one_word : {S : Type 0} (bytes : S → List ℕ) (words : List S) (item : S) (word : List ℕ) → 1 ≤ length words → length words < 2 → item ≡ get_or words 0 item → bytes item ≡ word → map bytes words ≡ word ∷ []
one_word bytes [] item word some few is e = absurd (omega arith)
one_word bytes (only ∷ []) item word some few is e = ap (λ t. t ∷ []) (ap bytes (sym is) ∙ e)
one_word bytes (first ∷ second ∷ rest) item word some few is e = absurd (omega arith)
