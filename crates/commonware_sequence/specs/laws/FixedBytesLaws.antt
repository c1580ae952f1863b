-- Laws of the encodings of bytes of a fixed size.
use Rattle.std.specs.Prelude.{ℕ, zero, suc, ◌≤◌, List, [], ◌∷◌, ◌++◌, length, take, drop, refl, nat_eq}
use Rattle.std.specs.Cmp.Lexicographic.{pointwise, same_text}
use Rattle.std.proofs.Common.{arith, inl, inr, ap, sym, subst, ◌∙◌}
use Rattle.std.proofs.lemmas.Bool.{cases_lt}
use Rattle.std.proofs.lemmas.Cmp.{nat_list_eq_equiv}
use Rattle.std.proofs.lemmas.List.{length-append, length-take-le, take-append-drop}
use Rattle.std.proofs.Math.Seq.{take-append_seam}
use Rattle.commonware_base.specs.laws.CloneLaws.{equal_from_same}
use Rattle.commonware_base.specs.Fault.{EndOfBuffer}
use Rattle.commonware_base.specs.Text.{AreBytes, AcceptedOrFaulty, IsPrefixFree, ReadLaws, CanonicalLaws}
use Rattle.commonware_sequence.specs.FixedBytes.{IsOfSize, own_bytes, size_fault}

-- a prefix of a list of bytes is a list of bytes
pub bytes_left : (n : ℕ) (s : List ℕ) → AreBytes s → AreBytes (take n s)
bytes_left zero s h = tt
bytes_left (suc n) [] h = tt
bytes_left (suc n) (b ∷ s) h = (h.0, bytes_left n s h.1)

module _ (size : ℕ) where
  -- two of them that begin one input are the same
  pub fixed_prefix_free : IsPrefixFree own_bytes (IsOfSize size)
  fixed_prefix_free a b x y p q e =
      sym (take-append_seam a x) ∙ ap (take (length a)) e ∙ ap (λ n. take n (b ++ y)) (p.count ∙ sym q.count)
      ∙ take-append_seam b y

  -- as many bytes are left, or fewer
  fixed_accepted_or_faulty : (s : List ℕ) → AreBytes s
      → AcceptedOrFaulty own_bytes (IsOfSize size) (λ _. Unit {0}) (size_fault size s) s
  fixed_accepted_or_faulty s h = elim (cases_lt (length s) size) [
    | inl short ↦ inr (EndOfBuffer, (short, refl))
    | inr enough ↦ inl (
      take size s,
      drop size s,
      record {
        writable = record { count = length-take-le size s enough; bytes = bytes_left size s h };
        allowed = tt;
        begins = sym (take-append-drop size s);
      },
    )
  ]

  -- the laws of their encodings
  pub fixed_laws : ReadLaws own_bytes (IsOfSize size) (λ _. Unit {0}) (size_fault size)
  fixed_laws = record {
    allowed_by_bytes = λ a b _ _ _ h. h;
    one_fault = λ s f g v w. v.1 ∙ sym w.1;
    accepted_no_fault = λ s v r f a w. omega (arith, w.0, a.writable.count, ap length a.begins, length-append v r);
    accepted_or_faulty = fixed_accepted_or_faulty;
  }

  -- they are equal exactly where they are the same list
  pub fixed_canonical : CanonicalLaws own_bytes (IsOfSize size) (pointwise nat_eq)
  fixed_canonical = record {
    equal_by_bytes = λ a b _ _. ((λ e. same_text a b (sym e)), (λ e. equal_from_same nat_list_eq_equiv a b (sym e)));
    writable_together = λ a b e p. subst (IsOfSize size) (same_text a b (sym e)) p;
  }

  -- they have that size
  pub fixed_length : (bytes : List ℕ) → IsOfSize size bytes → length bytes ≤ size
  fixed_length bytes h = omega (arith, h.count)
