-- What is proved of words and their encodings.
use Rattle.std.specs.Prelude.{◌≡◌, ℕ, zero, suc, ◌<◌, ◌≤◌, List, [], ◌∷◌, ◌++◌, length, refl, ◌↔◌, ◌==◌, true}
use Rattle.std.specs.Int.{w32, from_be_bytes}
use Rattle.std.proofs.Common.{inl, inr, ap, sym, ◌∙◌, arith, get_or, subst}
use Rattle.std.proofs.lemmas.Bool.{eqb-true, eq-eqb}
use Rattle.std.proofs.lemmas.Nat.{be_bytes_4, from_be_bytes-to_be_bytes_4}
use Rattle.commonware_base.specs.Fault.{Fault, EndOfBuffer}
use Rattle.commonware_base.specs.Text.{AreBytes, AcceptedOrFaulty, IsPrefixFree, ReadLaws, CanonicalLaws}
use Rattle.commonware_base.specs.Words.{word_bytes, IsWord, word_fault}

-- the encodings of two words that begin one input are the same
pub word_prefix_free : IsPrefixFree word_bytes IsWord
word_prefix_free a b x y p q e = cc

-- an input that begins with four bytes has no fault
word_no_fault : (s : List ℕ) (v : ℕ) (r : List ℕ) (f : Fault) → s ≡ word_bytes v ++ r → word_fault s f → ⊥
word_no_fault s v r f e w = omega (arith, w.0, ap length e)

-- there are four bytes, or fewer
word_accepted_or_faulty : (s : List ℕ) → AreBytes s
    → AcceptedOrFaulty word_bytes IsWord (λ _. Unit {0}) (word_fault s) s
word_accepted_or_faulty [] h = inr (EndOfBuffer, (omega arith, refl))
word_accepted_or_faulty (a ∷ []) h = inr (EndOfBuffer, (omega arith, refl))
word_accepted_or_faulty (a ∷ b ∷ []) h = inr (EndOfBuffer, (omega arith, refl))
word_accepted_or_faulty (a ∷ b ∷ c ∷ []) h = inr (EndOfBuffer, (omega arith, refl))
word_accepted_or_faulty (a ∷ b ∷ c ∷ d ∷ s) h =
    let t : List ℕ = a ∷ b ∷ c ∷ d ∷ [] in
    inl (
      from_be_bytes w32 t,
      s,
      record {
        writable = omega (arith, h.0, h.1.0, h.1.1.0, h.1.1.1.0);
        allowed = tt;
        begins = ap (λ u. u ++ s) (sym (be_bytes_4 t _ refl small refl));
      },
    )
  where
    small : (i : ℕ) → get_or (a ∷ b ∷ c ∷ d ∷ []) i 0 < 256
    small zero = h.0
    small (suc zero) = h.1.0
    small (suc (suc zero)) = h.1.1.0
    small (suc (suc (suc zero))) = h.1.1.1.0
    small (suc (suc (suc (suc i)))) = omega arith

-- different words have different bytes
word_equal : (a b : ℕ) → IsWord a → IsWord b → ((a == b) ≡ true) ↔ (word_bytes a ≡ word_bytes b)
word_equal a b p q = (
  (λ e. ap word_bytes (eqb-true a b e)),
  (λ e. eq-eqb a b
      (sym (from_be_bytes-to_be_bytes_4 a p) ∙ ap (from_be_bytes w32) e ∙ from_be_bytes-to_be_bytes_4 b q)),
)

-- the laws of the encodings of words
pub word_laws : ReadLaws word_bytes IsWord (λ _. Unit {0}) word_fault
word_laws = record {
  allowed_by_bytes = λ a b _ _ _ h. h;
  one_fault = λ s f g v w. v.1 ∙ sym w.1;
  accepted_no_fault = λ s v r f a w. word_no_fault s v r f a.begins w;
  accepted_or_faulty = word_accepted_or_faulty;
}

-- words are equal exactly where their bytes are
pub word_canonical : CanonicalLaws word_bytes IsWord (λ a b. a == b)
word_canonical = record { equal_by_bytes = word_equal; writable_together = λ a b e p. subst IsWord (eqb-true a b e) p }

-- the bytes of a word are bytes
pub word_text : (n : ℕ) → AreBytes (word_bytes n)
word_text n = (omega arith, (omega arith, (omega arith, (omega arith, tt))))

-- and there are four of them
pub word_length : (n : ℕ) → length (word_bytes n) ≤ 4
word_length n = omega arith
