-- Who signed what: `signed index value` is any relation between participants and values.
use Rattle.std.specs.Prelude.{◌≡◌, ℕ, ◌-◌, ◌<◌, ◌≤◌, ◌^◌, Bool, List, length, Contains, IsTrue}
use Rattle.std.specs.Ordering.{nat_cmp}
use Rattle.commonware_base.specs.Unions.{union_text}
use Rattle.commonware_ordered.specs.Strict.{IsStrict}
use Rattle.committee_certificates.specs.Signers.{AreMembers}
use Rattle.committee_certificates.specs.Slots.{Contradict}

-- A log of signatures, of which no more is known than that it says of each participant and each value whether that one
-- signed it; as a relation.
abbrev pub InLog : (ℕ → List ℕ → Bool) → ℕ → List ℕ → Type 0
InLog log index value = IsTrue (log index value)

-- the participants that a test passes
abbrev pub Passes : (ℕ → Bool) → ℕ → Type 0
Passes test index = IsTrue (test index)

-- each of these participants signed the value
abbrev pub EachSigned : (ℕ → List ℕ → Type 0) → List ℕ → List ℕ → Type 0
EachSigned signed signers value = (index : ℕ) → Contains signers index → signed index value

-- the participant signed two different decisions for one slot
abbrev pub HasEquivocated : (ℕ → List ℕ → Type 0) → ℕ → Type 0
HasEquivocated signed index =
    (value : List ℕ) × (other : List ℕ) × signed index value × signed index other × Contradict value other

-- each of these participants did
abbrev pub EachHasEquivocated : (ℕ → List ℕ → Type 0) → List ℕ → Type 0
EachHasEquivocated signed named = (index : ℕ) → Contains named index → HasEquivocated signed index

-- the rule of honest participants: at most one decision for each slot
pub record SignOneDecision (honest : ℕ → Type 0) (signed : ℕ → List ℕ → Type 0) : Type 0 where
  pub one_decision : (index : ℕ) → honest index → (slot decision other : List ℕ) → length slot < 2 ^ 32
      → signed index (union_text slot decision) → signed index (union_text slot other) → decision ≡ other

-- at most f of the n members aren't honest: those of a list, in increasing order
pub record AtMostFaulty (n f : ℕ) (honest : ℕ → Type 0) : Type 0 where
  pub faulty : List ℕ
  pub strict : IsStrict nat_cmp faulty
  pub members : AreMembers n faulty
  pub few : length faulty ≤ f
  pub others_honest : (index : ℕ) → index < n → (¬ Contains faulty index) → honest index

-- a quorum certificate: at least n - f of the n members, in increasing order, each of which signed the value
pub record IsCertifiedBy (n f : ℕ) (signed : ℕ → List ℕ → Type 0) (signers value : List ℕ) : Type 0 where
  pub strict : IsStrict nat_cmp signers
  pub members : AreMembers n signers
  pub enough : n - f ≤ length signers
  pub each_signed : EachSigned signed signers value
