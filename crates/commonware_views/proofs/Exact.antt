-- A reading under which each input has one answer accepts exactly the encodings.
use Rattle.std.proofs.Common.{◌↔◌, ℕ, List, refl}
use Rattle.std.specs.Prelude.{IfErr, IfOk, IsOk}
use Rattle.std.specs.declared.result.Result.{Result}
use Rattle.std.specs.declared.result.Result.TheVariants.{Ok, Err}
use Rattle.commonware_base.specs.declared.codec.error.Error.{Error}
use Rattle.commonware_base.specs.Fault.{Fault}
use Rattle.commonware_base.specs.Refusal.{Refuses}
use Rattle.commonware_base.specs.Text.{Accepts, ReadLaws}
use Rattle.commonware_base.specs.laws.RefusalLaws.{fault_of_refusal}

module _ {T : Type 0} (enc : T → List ℕ) (Writable Allowed : T → Type 0) (HasFault : List ℕ → Fault → Type 0)
    (laws : ReadLaws enc Writable Allowed HasFault) (s after : List ℕ) where
  -- a value is returned exactly where the input begins with one
  pub exactly_accepted : (r : Result T Error) → IfOk r (λ v. Accepts enc Writable Allowed s v after)
      → IfErr r (Refuses (HasFault s) (Unit {0}))
      → IsOk r ↔ ((v : T) × (rest : List ℕ) × Accepts enc Writable Allowed s v rest)
  exactly_accepted (Ok v) ok err = ((λ _. (v, after, ok)), λ _. refl)
  exactly_accepted (Err e) ok err =
      let fault = fault_of_refusal (HasFault s) e err in
      ((λ never. absurd (cc)), λ w. absurd (laws.accepted_no_fault s w.0 w.1 fault.0 w.2 fault.1))
