-- What is proved of numbers that are written as varints, alone or in a range.
use Rattle.std.specs.Prelude.{◌≡◌, ℕ, List, [], ◌++◌, refl, ◌↔◌, ◌==◌, true}
use Rattle.std.proofs.Common.{inl, inr, ap, sym, ◌∙◌, subst}
use Rattle.std.proofs.lemmas.Bool.{eqb-true, eq-eqb}
use Rattle.commonware_base.specs.Fault.{Fault, InvalidLength}
use Rattle.commonware_base.specs.Text.{AreBytes, AcceptedOrFaulty, IsPrefixFree, ReadLaws, CanonicalLaws}
use Rattle.commonware_base.specs.Range.{Bounds, Within}
use Rattle.commonware_base.specs.laws.RangeLaws.{within_or_not}
use Rattle.commonware_base.specs.Varint.{varint, varint_fault}
use Rattle.commonware_base.specs.laws.VarintLaws.{varint_split, varint_no_fault, varint_one_fault, varint_or_fault}
use Rattle.commonware_base.specs.Words.{IsWord}
use Rattle.commonware_base.specs.Numbers.{NumberFault, invalid_varint, out_of_range}

-- two numbers that begin one input are the same
pub number_prefix_free : IsPrefixFree varint IsWord
number_prefix_free a b x y p q e = ap varint (varint_split a b x y p q e).0

-- different numbers have different bytes
varint_equal : (a b : ℕ) → IsWord a → IsWord b → ((a == b) ≡ true) ↔ (varint a ≡ varint b)
varint_equal a b p q =
    ((λ e. ap varint (eqb-true a b e)), (λ e. eq-eqb a b (varint_split a b [] [] p q (ap (λ t. t ++ []) e)).0))

-- an input begins with a number or has a fault
varint_accepted_or_faulty : (s : List ℕ) → AreBytes s
    → AcceptedOrFaulty varint IsWord (λ _. Unit {0}) (varint_fault s) s
varint_accepted_or_faulty s h = elim (varint_or_fault s h) [
  | inr w ↦ inr w
  | inl w ↦ inl (w.0, w.1, record { writable = w.2; allowed = tt; begins = w.3 })
]

-- an input that begins with a number in the range has no fault
number_no_fault : (range : Bounds ℕ) (s : List ℕ) (n : ℕ) (r : List ℕ) (f : Fault) → IsWord n → Within range n
    → s ≡ varint n ++ r → NumberFault range s f → ⊥
number_no_fault range s n r f p h e (invalid_varint w) = varint_no_fault s n r f p e w
number_no_fault range s n r f p h e (out_of_range m q w) =
    w.outside (subst (Within range) (varint_split n m _ _ p w.short (sym e ∙ w.begins)).0 h)

-- an input has at most one fault
number_one_fault : (range : Bounds ℕ) (s : List ℕ) (f g : Fault) → NumberFault range s f → NumberFault range s g → f ≡ g
number_one_fault range s f g (invalid_varint v) (invalid_varint w) = varint_one_fault s f g v w
number_one_fault range s f g (invalid_varint v) (out_of_range m q w) =
    absurd (varint_no_fault s m w.rest f w.short w.begins v)
number_one_fault range s f g (out_of_range n p v) (invalid_varint w) =
    absurd (varint_no_fault s n v.rest g v.short v.begins w)
number_one_fault range s f g (out_of_range n p v) (out_of_range m q w) =
    p ∙ ap InvalidLength (varint_split n m _ _ v.short w.short (sym v.begins ∙ w.begins)).0 ∙ sym q

-- an input begins with a number in the range or has a fault
number_accepted_or_faulty : (range : Bounds ℕ) (s : List ℕ) → AreBytes s
    → AcceptedOrFaulty varint IsWord (Within range) (NumberFault range s) s
number_accepted_or_faulty range s h = elim (varint_or_fault s h) [
  | inr w ↦ inr (w.0, invalid_varint w.1)
  | inl w ↦ elim (within_or_not range w.0) [
    | inl i ↦ inl (w.0, w.1, record { writable = w.2; allowed = i; begins = w.3 })
    | inr o ↦ inr
        (InvalidLength w.0, out_of_range w.0 refl (record { rest = w.1; short = w.2; begins = w.3; outside = o }))
  ]
]

-- the laws of the encodings of varints
pub varint_laws : ReadLaws varint IsWord (λ _. Unit {0}) varint_fault
varint_laws = record {
  allowed_by_bytes = λ a b _ _ _ h. h;
  one_fault = varint_one_fault;
  accepted_no_fault = λ s v r f a w. varint_no_fault s v r f a.writable a.begins w;
  accepted_or_faulty = varint_accepted_or_faulty;
}

-- numbers are equal exactly where their bytes are
pub number_canonical : CanonicalLaws varint IsWord (λ a b. a == b)
number_canonical =
    record { equal_by_bytes = varint_equal; writable_together = λ a b e p. subst IsWord (eqb-true a b e) p }

-- the laws of the encodings of numbers in a range
pub number_laws : (range : Bounds ℕ) → ReadLaws varint IsWord (Within range) (NumberFault range)
number_laws range = record {
  allowed_by_bytes = λ a b p q e h. subst (Within range) (varint_split a b [] [] p q (ap (λ t. t ++ []) e)).0 h;
  one_fault = number_one_fault range;
  accepted_no_fault = λ s v r f a w. number_no_fault range s v r f a.writable a.allowed a.begins w;
  accepted_or_faulty = number_accepted_or_faulty range;
}
