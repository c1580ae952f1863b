-- Weights with their keys: the encodings of maps from keys to weights, and what is wrong with every other input.
use Rattle.std.specs.Prelude.{◌≡◌, ◌⊎◌, ℕ, List}
use Rattle.std.specs.Map.{values_of}
use Rattle.std.specs.declared.cmp.Ordering.{Ordering}
use Rattle.commonware_base.specs.Fault.{Fault}
use Rattle.commonware_base.specs.Range.{Bounds}
use Rattle.commonware_base.specs.Refusal.{Refuses}
use Rattle.commonware_base.specs.Text.{Accepts, AreBytes}
use Rattle.commonware_map.specs.Maps.{map_enc, IsAllowedMap, IsWritableMap, MapFault}
use Rattle.commonware_sequence.specs.U64.{u64_bytes, u64_fault, IsU64}
use Rattle.committee_weights.specs.Refusals.{AreCommitteeWeights, IsRefusedAs}
use Rattle.committee_weights.specs.declared.keyed.ReadWeightsError.{ReadWeightsError}
use Rattle.committee_weights.specs.declared.keyed.ReadWeightsError.TheVariants as errors
use Rattle.committee_weights.specs.declared.weights.error.WeightsError.{WeightsError}

-- the encoding of a map from keys to numbers of eight bytes
abbrev pub keyed_enc : {K : Type 0} → (K → List ℕ) → List (K × ℕ) → List ℕ
keyed_enc key_enc = map_enc key_enc u64_bytes

-- a map that can be written, whatever its values are
abbrev pub IsKeyed : {K : Type 0} → (K → Type 0) → (K → K → Ordering) → List (K × ℕ) → Type 0
IsKeyed KeyWritable cmp = IsWritableMap KeyWritable cmp IsU64

-- a map that can be written, whose values are weights of a committee
abbrev pub AreKeyedWeights : {K : Type 0} → (K → Type 0) → (K → K → Ordering) → List (K × ℕ) → Type 0
AreKeyedWeights KeyWritable cmp m = IsKeyed KeyWritable cmp m × AreCommitteeWeights (values_of m)

-- The number of keys is in the range, and each key is allowed.
abbrev pub IsAllowedKeyed : {K : Type 0} → Bounds ℕ → (K → Type 0) → List (K × ℕ) → Type 0
IsAllowedKeyed range KeyAllowed = IsAllowedMap range KeyAllowed (λ _. Unit {0})

-- The input begins with a map within the limits, whose values aren't weights for this reason.
pub record BeginsWithRefused {K : Type 0} (key_enc : K → List ℕ) (KeyWritable : K → Type 0) (cmp : K → K → Ordering)
    (KeyAllowed : K → Type 0) (range : Bounds ℕ) (text : List ℕ) (reason : WeightsError) : Type 0 where
  pub map : List (K × ℕ)
  pub rest : List ℕ
  pub accepted : Accepts (keyed_enc key_enc) (IsKeyed KeyWritable cmp) (IsAllowedKeyed range KeyAllowed) text map rest
  pub refused : IsRefusedAs (values_of map) reason

-- What is wrong with an input: a fault of the map, or the reason why the values of a map aren't weights.
pub data KeyedFault : Type 0 where
  Undecodable : Fault → KeyedFault
  Refused : WeightsError → KeyedFault

-- The first fault of an input that should begin with weights and their keys: that of the map; then, where there is
-- none, the reason why its values aren't weights.
abbrev pub IsKeyedFault :
    {K : Type 0} (key_enc : K → List ℕ) (KeyWritable : K → Type 0) (cmp : K → K → Ordering) (KeyAllowed : K → Type 0)
    (key_fault : List ℕ → Fault → Type 0) → Bounds ℕ → List ℕ → KeyedFault → Type 0
IsKeyedFault key_enc KeyWritable cmp KeyAllowed key_fault range text (Undecodable fault) =
    MapFault key_enc KeyWritable cmp KeyAllowed key_fault u64_bytes IsU64 (λ _. Unit {0}) u64_fault range text fault
IsKeyedFault key_enc KeyWritable cmp KeyAllowed key_fault range text (Refused reason) =
    BeginsWithRefused key_enc KeyWritable cmp KeyAllowed range text reason

-- An error names a fault that the input has; or it is an allocation failure, which never comes where the reading is
-- memory-free.
abbrev pub RefusesKeyed : (KeyedFault → Type 0) → Type 0 → ReadWeightsError → Type 0
RefusesKeyed HasFault MemoryFree (errors.Undecodable error) = Refuses (λ f. HasFault (Undecodable f)) MemoryFree error
RefusesKeyed HasFault MemoryFree (errors.Refused reason) = HasFault (Refused reason)

-- What holds of all inputs: one that begins with weights and their keys has no fault, each other has exactly one; and
-- maps of one encoding have one list of weights.
pub record KeyedLaws {K : Type 0} (key_enc : K → List ℕ) (KeyWritable : K → Type 0) (cmp : K → K → Ordering)
    (KeyAllowed : K → Type 0) (key_fault : List ℕ → Fault → Type 0) (range : Bounds ℕ) : Type 0 where
  pub one_fault : (text : List ℕ) (f g : KeyedFault)
      → IsKeyedFault key_enc KeyWritable cmp KeyAllowed key_fault range text f
      → IsKeyedFault key_enc KeyWritable cmp KeyAllowed key_fault range text g → f ≡ g
  pub accepted_no_fault : (text : List ℕ) (m : List (K × ℕ)) (rest : List ℕ) (f : KeyedFault)
      → Accepts (keyed_enc key_enc) (AreKeyedWeights KeyWritable cmp) (IsAllowedKeyed range KeyAllowed) text m rest
      → ¬ IsKeyedFault key_enc KeyWritable cmp KeyAllowed key_fault range text f
  pub accepted_or_faulty : (text : List ℕ) → AreBytes text
      → ((m : List (K × ℕ)) × (rest : List ℕ)
      × Accepts (keyed_enc key_enc) (AreKeyedWeights KeyWritable cmp) (IsAllowedKeyed range KeyAllowed) text m rest)
      ⊎ ((f : KeyedFault) × IsKeyedFault key_enc KeyWritable cmp KeyAllowed key_fault range text f)
  pub weights_by_bytes : (m n : List (K × ℕ)) → IsKeyed KeyWritable cmp m → IsKeyed KeyWritable cmp n
      → keyed_enc key_enc m ≡ keyed_enc key_enc n → values_of m ≡ values_of n
