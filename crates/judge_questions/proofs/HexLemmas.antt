-- Hexadecimal digits after hexadecimal digits.
use Rattle.std.proofs.Common.{◌≡◌, ℕ, ◌+◌, ◌*◌, ◌-◌, ◌<◌, ◌≤◌, List, [], ◌∷◌, ◌++◌, length, length-append, get_or, take, drop, arith, refl, sym, ap, ◌∙◌}
use Rattle.std.proofs.lemmas.List.{take_rest}
use Rattle.judge_questions.specs.Hex.{IsHex, IsHexByte, IsText}

-- one byte more
pub hex_more : (done : List ℕ) (bytes : List ℕ) (high low byte : ℕ) → IsHex done bytes → IsHexByte high low byte → IsHex (done ++ (high ∷ low ∷ [])) (bytes ++ (byte ∷ []))
hex_more [] [] high low byte h b = (b, tt)
hex_more [] (x ∷ bytes) high low byte h b = absurd h
hex_more (d ∷ []) bytes high low byte h b = absurd h
hex_more (d ∷ e ∷ done) [] high low byte h b = absurd h
hex_more (d ∷ e ∷ done) (x ∷ bytes) high low byte h b = (h.0, hex_more done bytes high low byte h.1 b)

-- what follows digits that write bytes are digits as well, where the whole is
pub hex_rest : (done rest : List ℕ) (bytes all : List ℕ) → IsHex done bytes → IsHex (done ++ rest) all → (more : List ℕ) × IsHex rest more
hex_rest [] rest [] all h w = (all, w)
hex_rest [] rest (x ∷ bytes) all h w = absurd h
hex_rest (d ∷ []) rest bytes all h w = absurd h
hex_rest (d ∷ e ∷ done) rest [] all h w = absurd h
hex_rest (d ∷ e ∷ done) rest (x ∷ bytes) [] h w = absurd w
hex_rest (d ∷ e ∷ done) rest (x ∷ bytes) (y ∷ all) h w = hex_rest done rest bytes all h.1 w.1

-- a word that isn't `-` is digits
pub text_is_hex : (word bytes : List ℕ) → (word ≡ 45 ∷ [] → ⊥) → IsText word bytes → IsHex word bytes
text_is_hex word [] other h = absurd (other h)
text_is_hex word (b ∷ bytes) other h = h

-- the first two of a list, and the rest
pub two_front : (rest : List ℕ) → 2 ≤ length rest → rest ≡ get_or rest 0 0 ∷ get_or rest 1 0 ∷ take (length rest - 2) (drop 2 rest)
two_front [] some = absurd (omega arith)
two_front (a ∷ []) some = absurd (omega arith)
two_front (a ∷ b ∷ rest) some = ap (λ l. a ∷ b ∷ l) (sym (take_rest (a ∷ b ∷ rest) 2))

-- two that write no byte
pub no_byte : (rest bytes : List ℕ) → 2 ≤ length rest → IsHex rest bytes → ((byte : ℕ) → ¬ IsHexByte (get_or rest 0 0) (get_or rest 1 0) byte) → ⊥
no_byte [] bytes some h none = absurd (omega arith)
no_byte (a ∷ []) bytes some h none = absurd (omega arith)
no_byte (a ∷ b ∷ rest) [] some h none = absurd h
no_byte (a ∷ b ∷ rest) (x ∷ bytes) some h none = none x h.0

-- one digit writes none
pub one_left : (rest bytes : List ℕ) → 1 ≤ length rest → length rest < 2 → IsHex rest bytes → ⊥
one_left [] bytes some few h = omega arith
one_left (a ∷ []) bytes some few h = absurd h
one_left (a ∷ b ∷ rest) bytes some few h = omega arith

-- two digits write each byte
hex_length : (word bytes : List ℕ) → IsHex word bytes → length word ≡ 2 * length bytes
hex_length [] [] h = refl
hex_length [] (x ∷ bytes) h = absurd h
hex_length (d ∷ []) bytes h = absurd h
hex_length (d ∷ e ∷ word) [] h = absurd h
hex_length (d ∷ e ∷ word) (x ∷ bytes) h = let more = hex_length word bytes h.1 in omega arith

-- a word that writes more than 64 bytes
pub long_hex : (word done rest bytes : List ℕ) → word ≡ done ++ rest → IsHex done bytes → 64 ≤ length bytes → 2 ≤ length rest → 128 < length word
long_hex word done rest bytes split hex many two =
    let whole : length word ≡ length done + length rest = ap length split ∙ length-append done rest in
    let each = hex_length done bytes hex in
    omega arith
