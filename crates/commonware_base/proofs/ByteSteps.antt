-- Steps of the reader and the writer of bytes that take many at once.
use Rattle.std.proofs.Common.{◌≡◌, ℕ, ◌<◌, List, [], ◌∷◌, length, refl, ap, arith}
use Rattle.std.specs.List.{flat_map}
use Rattle.commonware_base.specs.Bytes.{byte, byte_fault}
use Rattle.commonware_base.specs.Fault.{Fault, EndOfBuffer}

-- a byte is its own encoding
pub bytes_join : (xs : List ℕ) → flat_map byte xs ≡ xs
bytes_join [] = refl
bytes_join (x ∷ xs) = ap (λ u. x ∷ u) (bytes_join xs)

-- where there is no byte, fewer than one are left
pub byte_short : (s : List ℕ) (f : Fault) → byte_fault s f → (length s < 1) × (f ≡ EndOfBuffer)
byte_short s f w = (omega (arith, ap length w.0), w.1)
