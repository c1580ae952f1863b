-- The items of one size that follow one another in a list of bytes.
use Rattle.std.proofs.Common.{◌≡◌, ◌∙◌, ℕ, zero, suc, ◌+◌, ◌*◌, ◌<◌, ◌≤◌, List, [], ◌∷◌, ◌++◌, length, take, drop, get_or, arith, ap, refl}
use Rattle.std.proofs.Math.Nat.{suc-mul}
use Rattle.std.proofs.lemmas.Nat.{mul-le}
use Rattle.std.proofs.lemmas.List.{drop-drop, length-drop, length-take-le, take-append-drop}
use Rattle.std.specs.List.{AllByRecursion, flat_map}
use Rattle.std.specs.Simd.{first_chunks}
use Rattle.commonware_base.specs.Text.{AreBytes}
use Rattle.commonware_sequence.specs.laws.FixedBytesLaws.{bytes_left}
use Rattle.commonware_sequence.specs.FixedBytes.{IsOfSize, own_bytes}

-- what is left of bytes after some are bytes
bytes_on : (n : ℕ) (s : List ℕ) → AreBytes s → AreBytes (drop n s)
bytes_on zero s h = h
bytes_on (suc n) [] h = tt
bytes_on (suc n) (b ∷ s) h = bytes_on n s h.1

-- there are as many as were cut
pub chunks_count : (size k : ℕ) (s : List ℕ) → length (first_chunks size k s) ≡ k
chunks_count size zero s = refl
chunks_count size (suc k) s = ap suc (chunks_count size k (drop size s))

-- the one at an index begins after as many
pub chunk_at : (size k i : ℕ) (s d : List ℕ) → i < k → get_or (first_chunks size k s) i d ≡ take size (drop (i * size) s)
chunk_at size zero i s d h = absurd (omega (arith, h))
chunk_at size (suc k) zero s d h = let none : 0 ≡ 0 * size = omega arith in ap (λ n. take size (drop n s)) none
chunk_at size (suc k) (suc i) s d h =
    let on : size + i * size ≡ suc i * size = omega (arith, suc-mul i size) in
    chunk_at size k i (drop size s) d (omega (arith, h)) ∙ ap (take size) (drop-drop (i * size) size s ∙ ap (λ n. drop n s) on)

-- and ends inside
pub chunk_inside : (size k i : ℕ) → i < k → i * size + size ≤ k * size
chunk_inside size k i h = omega (arith, suc-mul i size, mul-le (suc i) size k size (omega (arith, h)) (omega arith))

-- each is an item
pub chunks_are_items : (size k : ℕ) (s : List ℕ) → AreBytes s → k * size ≤ length s → AllByRecursion (IsOfSize size) (first_chunks size k s)
chunks_are_items size zero s h enough = tt
chunks_are_items size (suc k) s h enough = (
  record { count = length-take-le size s (omega (arith, enough, suc-mul k size)); bytes = bytes_left size s h },
  chunks_are_items size k (drop size s) (bytes_on size s h) (omega (arith, enough, suc-mul k size, length-drop size s)),
)

-- each has that many bytes
pub chunks_are_long : (size k : ℕ) (s : List ℕ) → k * size ≤ length s → AllByRecursion (λ item. length item ≡ size) (first_chunks size k s)
chunks_are_long size zero s enough = tt
chunks_are_long size (suc k) s enough = (
  length-take-le size s (omega (arith, enough, suc-mul k size)),
  chunks_are_long size k (drop size s) (omega (arith, enough, suc-mul k size, length-drop size s)),
)

-- together they are the bytes
pub chunks_are_all : (size k : ℕ) (s : List ℕ) → length s ≡ k * size → flat_map own_bytes (first_chunks size k s) ≡ s
chunks_are_all size zero [] e = refl
chunks_are_all size zero (b ∷ s) e = absurd (omega (arith, e))
chunks_are_all size (suc k) s e =
    ap (λ t. take size s ++ t) (chunks_are_all size k (drop size s) (omega (arith, e, suc-mul k size, length-drop size s))) ∙ take-append-drop size s
