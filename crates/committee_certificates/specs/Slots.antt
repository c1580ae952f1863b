-- Slots: what an honest member signs at most once, as bytes of a protocol's choice: chain, committee, height, round and
-- kind of vote, say. What members sign for a slot is the slot's length as a varint, the slot, and the decision.
use Rattle.std.specs.Prelude.{◌≡◌, ◌≢◌, ℕ, ◌<◌, ◌^◌, List, length}
use Rattle.commonware_base.specs.Unions.{union_text}

-- the value is this decision for this slot
pub record IsFor (value slot decision : List ℕ) : Type 0 where
  pub short : length slot < 2 ^ 32
  pub text : value ≡ union_text slot decision

-- the value is a decision for some slot
abbrev pub HasSlot : List ℕ → Type 0
HasSlot value = (slot : List ℕ) × (decision : List ℕ) × IsFor value slot decision

-- the values are for two different slots
pub record AreOfOtherSlots (value other : List ℕ) : Type 0 where
  pub slot : List ℕ
  pub decision : List ℕ
  pub other_slot : List ℕ
  pub other_decision : List ℕ
  pub is_for : IsFor value slot decision
  pub other_is_for : IsFor other other_slot other_decision
  pub slots_differ : slot ≢ other_slot

-- the values are the same decision for one slot
pub record AreOneDecision (value other : List ℕ) : Type 0 where
  pub slot : List ℕ
  pub decision : List ℕ
  pub is_for : IsFor value slot decision
  pub other_is_for : IsFor other slot decision

-- the values contradict one another: they are different decisions for one slot
pub record Contradict (value other : List ℕ) : Type 0 where
  pub slot : List ℕ
  pub decision : List ℕ
  pub other_decision : List ℕ
  pub is_for : IsFor value slot decision
  pub other_is_for : IsFor other slot other_decision
  pub decisions_differ : decision ≢ other_decision
