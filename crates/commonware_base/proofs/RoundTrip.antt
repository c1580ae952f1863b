-- What was written is read again.
use Rattle.std.proofs.Common.{◌≡◌, ℕ, List, ◌++◌, Bool, true, refl, sym, ap, ◌∙◌}
use Rattle.std.proofs.lemmas.List.{append_cancel_left}
use Rattle.commonware_base.specs.Fault.{Fault}
use Rattle.commonware_base.specs.Fault as faults
use Rattle.commonware_base.specs.Refusal.{Refuses}
use Rattle.commonware_base.specs.Text.{Accepts, IsPrefixFree, ReadLaws, CanonicalLaws}
use Rattle.commonware_base.specs.declared.codec.error.Error.{Error}
use Rattle.commonware_base.specs.declared.codec.error.Error.TheVariants.{EndOfBuffer, InvalidVarint, InvalidLength, Invalid, Memory}

module _ {T : Type 0} (enc : T → List ℕ) (Writable Allowed : T → Type 0) (value : T) (text after : List ℕ) (writable : Writable value) (written : text ≡ enc value ++ after) where
  -- what is accepted of the encoding of a value has the same encoding
  same_bytes : IsPrefixFree enc Writable → (again : T) (rest : List ℕ) → Accepts enc Writable Allowed text again rest → enc again ≡ enc value
  same_bytes prefix_free again rest a = prefix_free again value rest after a.writable writable (sym a.begins ∙ written)

  -- so it equals the value
  pub equal_again : (eq : T → T → Bool) → IsPrefixFree enc Writable → CanonicalLaws enc Writable eq → (again : T) (rest : List ℕ) → Accepts enc Writable Allowed text again rest → eq again value ≡ true
  equal_again eq prefix_free canonical again rest a = (canonical.equal_by_bytes again value a.writable writable).1 (same_bytes prefix_free again rest a)

  -- and what came after the value is left
  pub rest_again : IsPrefixFree enc Writable → (again : T) (rest : List ℕ) → Accepts enc Writable Allowed text again rest → rest ≡ after
  rest_again prefix_free again rest a =
      let same = same_bytes prefix_free again rest a in
      append_cancel_left (enc value) rest after (ap (λ t. t ++ rest) (sym same) ∙ (sym a.begins ∙ written))

  module _ (HasFault : List ℕ → Fault → Type 0) (laws : ReadLaws enc Writable Allowed HasFault) (allowed : Allowed value) where
    -- the bytes of an allowed value have no fault
    no_fault : (f : Fault) → HasFault text f → ⊥
    no_fault f h = laws.accepted_no_fault text value after f (record { writable = writable; allowed = allowed; begins = written }) h

    -- so they are refused only for an allocation failure
    pub only_memory : (free : Type 0) (error : Error) → Refuses (HasFault text) free error → error ≡ Memory
    only_memory free EndOfBuffer h = absurd (no_fault faults.EndOfBuffer h)
    only_memory free InvalidVarint h = absurd (no_fault faults.InvalidVarint h)
    only_memory free (InvalidLength n) h = absurd (no_fault (faults.InvalidLength n) h)
    only_memory free (Invalid what why) h = absurd (no_fault (faults.Invalid what.now why.now) h)
    only_memory free Memory h = refl
