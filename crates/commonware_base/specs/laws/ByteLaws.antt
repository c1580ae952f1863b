-- What is proved of bytes and their encodings.
use Rattle.std.specs.Prelude.{◌≡◌, ℕ, ◌≤◌, length, List, [], ◌∷◌, ◌++◌, refl, ◌==◌}
use Rattle.std.proofs.Common.{arith, inl, inr, ap, sym, subst, ◌∙◌}
use Rattle.std.proofs.lemmas.Bool.{eqb-true, eq-eqb}
use Rattle.commonware_base.specs.Fault.{EndOfBuffer}
use Rattle.commonware_base.specs.Text.{AreBytes, AcceptedOrFaulty, IsByte, IsPrefixFree, ReadLaws, CanonicalLaws}
use Rattle.commonware_base.specs.Bytes.{byte, byte_fault}

-- two bytes that begin one input are the same
pub byte_prefix_free : IsPrefixFree byte IsByte
byte_prefix_free a b x y p q e = cc

-- an input begins with a byte, or ends
byte_or_end : (s : List ℕ) → AreBytes s → AcceptedOrFaulty byte IsByte (λ _. Unit {0}) (byte_fault s) s
byte_or_end [] h = inr (EndOfBuffer, (refl, refl))
byte_or_end (b ∷ s) h = inl (b, s, record { writable = h.0; allowed = tt; begins = refl })

-- the laws of the encodings of bytes
pub byte_laws : ReadLaws byte IsByte (λ _. Unit {0}) byte_fault
byte_laws = record {
  allowed_by_bytes = λ a b _ _ _ h. h;
  one_fault = λ s f g v w. v.1 ∙ sym w.1;
  accepted_no_fault = λ s v r f a w. let e : s ≡ byte v ++ r = a.begins in let n : s ≡ [] = w.0 in cc;
  accepted_or_faulty = byte_or_end;
}

-- bytes are equal exactly where their encodings are
pub byte_canonical : CanonicalLaws byte IsByte (λ a b. a == b)
byte_canonical = record {
  equal_by_bytes = λ a b _ _. ((λ e. ap byte (eqb-true a b e)), (λ e. eq-eqb a b cc));
  writable_together = λ a b e p. subst IsByte (eqb-true a b e) p;
}

-- the encoding of a byte has one byte
pub byte_length : (b : ℕ) → length (byte b) ≤ 1
byte_length b = omega arith
