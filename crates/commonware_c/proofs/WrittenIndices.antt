-- Indices that are written to the start of a room with a place for each.
use Rattle.std.proofs.Common.{◌≡◌, ◌∙◌, ◌++◌, ◌≤◌, List, ℕ, length, take_all, drop, ap, sym, arith}
use Rattle.committee_certificates.specs.InPlace.{written}

-- the room has all of them, and what was there after them
pub all_written : (indices room : List ℕ) (count : ℕ) → count ≡ length indices → count ≤ length room
    → written indices room ≡ indices ++ drop count room
all_written indices room count n fits =
    ap (λ t. t ++ drop (length indices) room) (take_all (length room) indices (omega (arith, n, fits)))
    ∙ ap (λ k. indices ++ drop k room) (sym n)
