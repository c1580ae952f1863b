-- The laws of values that keep a further condition, as the items of a set are strictly increasing: the fault of an
-- input is one that it has without the condition, or, where it begins with a value that breaks the condition, one fault
-- that says so.
use Rattle.std.specs.Prelude.{◌≡◌, ℕ, List, ◌⊎◌, ◌↔◌}
use Rattle.std.proofs.Common.{inl, inr, sym, ◌∙◌, refl}
use Rattle.commonware_base.specs.Fault.{Fault}
use Rattle.commonware_base.specs.Text.{Accepts, IsPrefixFree, ReadLaws}

-- What the condition is to inputs. `Keeps` and `HasFaultWith` are `Writable` and `HasFault` with it; `Breaks` holds of
-- an input that begins with a value that breaks it, and `fault` is the fault of such an input.
pub record Condition {V : Type 0} (enc : V → List ℕ) (Writable Keeps Allowed : V → Type 0)
    (HasFault HasFaultWith : List ℕ → Fault → Type 0) (Breaks : List ℕ → Type 0) (fault : Fault) : Type 0 where
  -- A value that keeps the condition is writable without it.
  pub without : (v : V) → Keeps v → Writable v
  -- A value that is accepted without the condition keeps it, or the input breaks it.
  pub keeps_or_breaks : (s : List ℕ) (v : V) (r : List ℕ) → Accepts enc Writable Allowed s v r → Keeps v ⊎ Breaks s
  -- An input that breaks it begins with a value, and no value of the same bytes keeps it.
  pub broken : (s : List ℕ) → Breaks s
      → (v : V) × (r : List ℕ) × Accepts enc Writable Allowed s v r × ((w : V) → Keeps w → enc w ≡ enc v → ⊥)
  -- A fault is one without the condition, or that of an input that breaks it.
  pub faults : (s : List ℕ) (f : Fault) → HasFaultWith s f ↔ (HasFault s f ⊎ ((f ≡ fault) × Breaks s))

module _ {V : Type 0} {enc : V → List ℕ} {Writable Keeps Allowed : V → Type 0}
    {HasFault HasFaultWith : List ℕ → Fault → Type 0} {Breaks : List ℕ → Type 0} {fault : Fault}
    (laws : ReadLaws enc Writable Allowed HasFault)
    (c : Condition enc Writable Keeps Allowed HasFault HasFaultWith Breaks fault) where
  -- an input that breaks the condition has no fault without it
  pub broken_no_fault : (s : List ℕ) (f : Fault) → Breaks s → HasFault s f → ⊥
  broken_no_fault s f b = let v = c.broken s b in laws.accepted_no_fault s v.0 v.1 f v.2

  -- an input has at most one fault
  one : (s : List ℕ) (f g : Fault) → HasFault s f ⊎ ((f ≡ fault) × Breaks s) → HasFault s g ⊎ ((g ≡ fault) × Breaks s)
      → f ≡ g
  one s f g (inl v) (inl w) = laws.one_fault s f g v w
  one s f g (inl v) (inr w) = absurd (broken_no_fault s f w.1 v)
  one s f g (inr v) (inl w) = absurd (broken_no_fault s g v.1 w)
  one s f g (inr v) (inr w) = v.0 ∙ sym w.0

  module _ (prefix_free : IsPrefixFree enc Writable) where
    -- an input that begins with a value that keeps the condition has no fault
    no_fault : (s : List ℕ) (v : V) (r : List ℕ) (f : Fault) → Accepts enc Keeps Allowed s v r
        → HasFault s f ⊎ ((f ≡ fault) × Breaks s) → ⊥
    no_fault s v r f a (inl w) =
        laws.accepted_no_fault s v r f
        (record { writable = c.without v a.writable; allowed = a.allowed; begins = a.begins }) w
    no_fault s v r f a (inr w) =
        let b = c.broken s w.1 in
        b.3 v a.writable
        (prefix_free v b.0 r b.1 (c.without v a.writable) b.2.writable (sym a.begins ∙ b.2.begins))

    -- the laws of the encodings of values that keep the condition
    pub condition_laws : ReadLaws enc Keeps Allowed HasFaultWith
    condition_laws = record {
      allowed_by_bytes = λ v w p q. laws.allowed_by_bytes v w (c.without v p) (c.without w q);
      one_fault = λ s f g v w. one s f g ((c.faults s f).0 v) ((c.faults s g).0 w);
      accepted_no_fault = λ s v r f a w. no_fault s v r f a ((c.faults s f).0 w);
      accepted_or_faulty = λ s h. elim (laws.accepted_or_faulty s h) [
        | inr w ↦ inr (w.0, (c.faults s w.0).1 (inl w.1))
        | inl w ↦ elim (c.keeps_or_breaks s w.0 w.1 w.2) [
          | inl p ↦ inl (w.0, w.1, record { writable = p; allowed = w.2.allowed; begins = w.2.begins })
          | inr b ↦ inr (fault, (c.faults s fault).1 (inr (refl, b)))
        ]
      ];
    }
