-- An error under other faults.
use Rattle.commonware_base.specs.declared.codec.error.Error.{Error}
use Rattle.commonware_base.specs.declared.codec.error.Error.TheVariants.{EndOfBuffer, InvalidVarint, InvalidLength}
use Rattle.commonware_base.specs.declared.codec.error.Error.TheVariants.{Invalid, Memory}
use Rattle.commonware_base.specs.Fault.{Fault}
use Rattle.commonware_base.specs.Fault as faults
use Rattle.commonware_base.specs.Refusal.{Refuses}

-- An error under other faults and another condition for memory-free decoding.
pub refuses_from : (P Q : Fault → Type 0) (M N : Type 0) → ((f : Fault) → P f → Q f) → (¬ M → ¬ N) → (e : Error)
    → Refuses P M e → Refuses Q N e
refuses_from P Q M N on_fault on_memory EndOfBuffer r = on_fault faults.EndOfBuffer r
refuses_from P Q M N on_fault on_memory InvalidVarint r = on_fault faults.InvalidVarint r
refuses_from P Q M N on_fault on_memory (InvalidLength n) r = on_fault (faults.InvalidLength n) r
refuses_from P Q M N on_fault on_memory (Invalid what why) r = on_fault (faults.Invalid what.now why.now) r
refuses_from P Q M N on_fault on_memory Memory r = on_memory r

-- An error where the decoding is memory-free names a fault.
pub fault_of_refusal : (P : Fault → Type 0) (e : Error) → Refuses P (Unit {0}) e → (f : Fault) × P f
fault_of_refusal P EndOfBuffer r = (faults.EndOfBuffer, r)
fault_of_refusal P InvalidVarint r = (faults.InvalidVarint, r)
fault_of_refusal P (InvalidLength n) r = (faults.InvalidLength n, r)
fault_of_refusal P (Invalid what why) r = (faults.Invalid what.now why.now, r)
fault_of_refusal P Memory r = absurd (r tt)
