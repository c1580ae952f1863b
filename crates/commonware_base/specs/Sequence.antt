-- Sequential composition: the encoding of one value and then that of another, whose limits may depend on the first.
use Rattle.std.specs.Prelude.{ℕ, List, ◌++◌}
use Rattle.commonware_base.specs.Fault.{Fault}
use Rattle.commonware_base.specs.Text.{Accepts}

-- the bytes of the first, and then those of the second
abbrev pub sequence_enc : {X Y : Type 0} → (X → List ℕ) → (Y → List ℕ) → X × Y → List ℕ
sequence_enc first second p = first p.0 ++ second p.1

-- both are writable
abbrev pub IsWritableSequence : {X Y : Type 0} → (X → Type 0) → (Y → Type 0) → X × Y → Type 0
IsWritableSequence First Second p = First p.0 × Second p.1

-- the first is allowed, and so is the second after it
abbrev pub IsAllowedSequence : {X Y : Type 0} → (X → Type 0) → (X → Y → Type 0) → X × Y → Type 0
IsAllowedSequence First Second p = First p.0 × Second p.0 p.1

-- The fault of an input that should begin with two values: the fault of the first; or, after one that is accepted, that
-- of the second.
pub data SequenceFault {X : Type 0} (first_enc : X → List ℕ) (FirstWritable FirstAllowed : X → Type 0)
    (first_fault : List ℕ → Fault → Type 0) (second_fault : X → List ℕ → Fault → Type 0) (text : List ℕ) (fault : Fault)
    : Type 0 where
  bad_first :
      first_fault text fault → SequenceFault first_enc FirstWritable FirstAllowed first_fault second_fault text fault
  bad_second : (x : X) (rest : List ℕ) → Accepts first_enc FirstWritable FirstAllowed text x rest
      → second_fault x rest fault → SequenceFault first_enc FirstWritable FirstAllowed first_fault second_fault text
      fault

-- The error cases of an input that should begin with two values.
pub data SequenceCase : Type 0 where
  at_first : SequenceCase
  at_second : SequenceCase

-- the error case of a fault
abbrev pub sequence_case :
    {X : Type 0} {first_enc : X → List ℕ} {FirstWritable FirstAllowed : X → Type 0}
    {first_fault : List ℕ → Fault → Type 0} {second_fault : X → List ℕ → Fault → Type 0} {text : List ℕ} {fault : Fault}
    → SequenceFault first_enc FirstWritable FirstAllowed first_fault second_fault text fault → SequenceCase
sequence_case (bad_first w) = at_first
sequence_case (bad_second x rest a w) = at_second
