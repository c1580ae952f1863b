-- Laws of lists of bytes, and of values that are seen as other values.
use Rattle.std.specs.Prelude.{◌≡◌, ℕ, List, [], ◌∷◌, ◌++◌, Bool}
use Rattle.std.proofs.Common.{inl, inr, ap, subst, ◌∙◌}
use Rattle.commonware_base.specs.Fault.{Fault}
use Rattle.commonware_base.specs.Text.{AreBytes, IsPrefixFree, ReadLaws, CanonicalLaws}

-- two lists of bytes joined are a list of bytes
pub bytes_append : (x y : List ℕ) → AreBytes x → AreBytes y → AreBytes (x ++ y)
bytes_append [] y p q = q
bytes_append (b ∷ x) y p q = (p.0, bytes_append x y p.1 q)

-- the end of a list of bytes is a list of bytes
pub bytes_right : (x y : List ℕ) → AreBytes (x ++ y) → AreBytes y
bytes_right [] y h = h
bytes_right (b ∷ x) y h = bytes_right x y h.1

-- A type whose values are seen as those of another keeps the laws that these keep.
module _ {T V : Type 0} (view : V → T) (enc : T → List ℕ) (Writable : T → Type 0) where
  -- no encoding is a proper prefix of another
  pub prefix_free_on : IsPrefixFree enc Writable → IsPrefixFree (λ v. enc (view v)) (λ v. Writable (view v))
  prefix_free_on h a b = h (view a) (view b)

  -- values are equal exactly where their encodings are
  pub canonical_on : (eq : T → T → Bool) → CanonicalLaws enc Writable eq
      → CanonicalLaws (λ v. enc (view v)) (λ v. Writable (view v)) (λ v w. eq (view v) (view w))
  canonical_on eq h =
      record {
        equal_by_bytes = λ a b. h.equal_by_bytes (view a) (view b);
        writable_together = λ a b. h.writable_together (view a) (view b);
      }

  module _ (Allowed : T → Type 0) (HasFault : List ℕ → Fault → Type 0) where
    -- Here each writable, allowed value has to be seen of some value.
    pub laws_on : ((x : T) → Writable x → Allowed x → (v : V) × (x ≡ view v)) → ReadLaws enc Writable Allowed HasFault
        → ReadLaws (λ v. enc (view v)) (λ v. Writable (view v)) (λ v. Allowed (view v)) HasFault
    laws_on make h = record {
      allowed_by_bytes = λ a b. h.allowed_by_bytes (view a) (view b);
      one_fault = h.one_fault;
      accepted_no_fault =
          λ s v r f a. h.accepted_no_fault s (view v) r f
          (record { writable = a.writable; allowed = a.allowed; begins = a.begins });
      accepted_or_faulty = λ s b. elim (h.accepted_or_faulty s b) [
        | inr f ↦ inr f
        | inl a ↦ (let m = make a.0 a.2.writable a.2.allowed in
            inl (
              m.0,
              a.1,
              record {
                writable = subst Writable m.1 a.2.writable;
                allowed = subst Allowed m.1 a.2.allowed;
                begins = a.2.begins ∙ ap (λ x. enc x ++ a.1) m.1;
              },
            ))
      ];
    }
