-- Laws of the encodings of numbers of 64 bits.
use Rattle.std.specs.Prelude.{◌≡◌, ℕ, zero, suc, ◌<◌, ◌≤◌, List, [], ◌∷◌, ◌++◌, length, take, drop, refl, ◌↔◌}
use Rattle.std.specs.Prelude.{◌==◌, true}
use Rattle.std.specs.Int.{w64, from_be_bytes}
use Rattle.std.proofs.Common.{inl, inr, ap, sym, ◌∙◌, arith, get_or, subst}
use Rattle.std.proofs.lemmas.Bool.{cases_lt, eqb-true, eq-eqb}
use Rattle.std.proofs.lemmas.List.{length-take-le, take-append-drop}
use Rattle.std.proofs.lemmas.Nat.{be_bytes_8, from_be_bytes-to_be_bytes_8}
use Rattle.std.proofs.Math.Seq.{take-append_seam}
use Rattle.commonware_base.specs.Fault.{EndOfBuffer}
use Rattle.commonware_base.specs.Text.{AreBytes, AcceptedOrFaulty, IsPrefixFree, ReadLaws, CanonicalLaws}
use Rattle.commonware_sequence.specs.laws.FixedBytesLaws.{bytes_left}
use Rattle.commonware_sequence.specs.U64.{u64_bytes, IsU64, u64_fault}

-- the encodings of two numbers that begin one input are the same
pub u64_prefix_free : IsPrefixFree u64_bytes IsU64
u64_prefix_free a b x y p q e =
    sym (take-append_seam (u64_bytes a) x) ∙ ap (take 8) e ∙ take-append_seam (u64_bytes b) y

-- each number of a list of bytes is below 256, and so is the 0 past its end
each_small : (s : List ℕ) → AreBytes s → (i : ℕ) → get_or s i 0 < 256
each_small [] h i = omega arith
each_small (b ∷ s) h zero = h.0
each_small (b ∷ s) h (suc i) = each_small s h.1 i

-- eight bytes encode a number of 64 bits
number_fits : (s : List ℕ) → AreBytes s → IsU64 (from_be_bytes w64 s)
number_fits s h = let b = each_small s h in omega (arith, b 0, b 1, b 2, b 3, b 4, b 5, b 6, b 7)

-- and these are its encoding
pub bytes_of_number : (s : List ℕ) → length s ≡ 8 → AreBytes s → u64_bytes (from_be_bytes w64 s) ≡ s
bytes_of_number s count h = be_bytes_8 s _ count (each_small s h) refl

-- as many bytes are left, or fewer
u64_accepted_or_faulty : (s : List ℕ) → AreBytes s
    → AcceptedOrFaulty u64_bytes IsU64 (λ _. Unit {0}) (u64_fault s) s
u64_accepted_or_faulty s h = elim (cases_lt (length s) 8) [
  | inl short ↦ inr (EndOfBuffer, (short, refl))
  | inr enough ↦ inl (
    from_be_bytes w64 (take 8 s),
    drop 8 s,
    record {
      writable = number_fits (take 8 s) (bytes_left 8 s h);
      allowed = tt;
      begins =
          sym (ap (λ t. t ++ drop 8 s) (bytes_of_number (take 8 s) (length-take-le 8 s enough) (bytes_left 8 s h))
          ∙ take-append-drop 8 s);
    },
  )
]

-- different numbers have different bytes
u64_equal : (a b : ℕ) → IsU64 a → IsU64 b → ((a == b) ≡ true) ↔ (u64_bytes a ≡ u64_bytes b)
u64_equal a b p q = (
  (λ e. ap u64_bytes (eqb-true a b e)),
  (λ e. eq-eqb a b
      (sym (from_be_bytes-to_be_bytes_8 a p) ∙ ap (from_be_bytes w64) e ∙ from_be_bytes-to_be_bytes_8 b q)),
)

-- there are eight of them
pub u64_length : (n : ℕ) → length (u64_bytes n) ≤ 8
u64_length n = omega arith

-- the laws of their encodings
pub u64_laws : ReadLaws u64_bytes IsU64 (λ _. Unit {0}) u64_fault
u64_laws = record {
  allowed_by_bytes = λ a b _ _ _ h. h;
  one_fault = λ s f g v w. v.1 ∙ sym w.1;
  accepted_no_fault = λ s v r f a w. omega (arith, w.0, ap length a.begins);
  accepted_or_faulty = u64_accepted_or_faulty;
}

-- numbers are equal exactly where their bytes are
pub u64_canonical : CanonicalLaws u64_bytes IsU64 (λ a b. a == b)
u64_canonical = record { equal_by_bytes = u64_equal; writable_together = λ a b e p. subst IsU64 (eqb-true a b e) p }

-- the bytes of a number are bytes
pub u64_text : (n : ℕ) → AreBytes (u64_bytes n)
u64_text n = (
  omega arith,
  (omega arith, (omega arith, (omega arith, (omega arith, (omega arith, (omega arith, (omega arith, tt))))))),
)
