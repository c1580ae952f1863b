-- Who signed which ballots: `signed index ballot` is any relation between participants and ballots.
use Rattle.std.specs.Prelude.{◌≡◌, ℕ, ◌-◌, ◌≤◌, Bool, List, length, Contains, IsTrue}
use Rattle.std.specs.Ordering.{nat_cmp}
use Rattle.commonware_ordered.specs.Strict.{IsStrict}
use Rattle.committee_certificates.specs.Signers.{AreMembers}
use Rattle.committee_votes.specs.Votes.{AreOfOneSlot, Ballot, Contradict}

-- A log of signatures, of which no more is known than that it says of each participant and each ballot whether that one
-- signed it; as a relation.
abbrev pub InLog : (ℕ → Ballot → Bool) → ℕ → Ballot → Type 0
InLog log index ballot = IsTrue (log index ballot)

-- each of these participants signed the ballot
abbrev pub EachSigned : (ℕ → Ballot → Type 0) → List ℕ → Ballot → Type 0
EachSigned signed signers ballot = (index : ℕ) → Contains signers index → signed index ballot

-- the participant signed two ballots that contradict one another
abbrev pub HasSignedTwo : {Who : Type 0} → (Who → Ballot → Type 0) → Who → Type 0
HasSignedTwo signed who =
    (first : Ballot) × (second : Ballot) × signed who first × signed who second × Contradict first second

-- each of these participants did
abbrev pub EachHasSignedTwo : (ℕ → Ballot → Type 0) → List ℕ → Type 0
EachHasSignedTwo signed named = (index : ℕ) → Contains named index → HasSignedTwo signed index

-- none of these participants is honest
abbrev pub NoneIsHonest : (ℕ → Type 0) → List ℕ → Type 0
NoneIsHonest honest named = (index : ℕ) → Contains named index → ¬ honest index

-- the rule of honest participants: at most one decision for each slot of each domain
pub record SignOneVote {Who : Type 0} (honest : Who → Type 0) (signed : Who → Ballot → Type 0) : Type 0 where
  pub one_decision : (who : Who) → honest who → (first second : Ballot) → signed who first → signed who second
      → AreOfOneSlot first second → first.decision ≡ second.decision

-- a quorum certificate: at least n - f of the n members, in increasing order, each of which signed the ballot
pub record IsCertifiedBy (n f : ℕ) (signed : ℕ → Ballot → Type 0) (signers : List ℕ) (ballot : Ballot) : Type 0 where
  pub strict : IsStrict nat_cmp signers
  pub members : AreMembers n signers
  pub enough : n - f ≤ length signers
  pub each_signed : EachSigned signed signers ballot

-- By a domain's committee: `key_of domain index` is the key that the domain's committee has at the index. The member at
-- the index of the ballot's own committee signed the ballot.
abbrev pub ByKey : {Key : Type 0} → (List ℕ → ℕ → Key) → (Key → Ballot → Type 0) → ℕ → Ballot → Type 0
ByKey key_of signed index ballot = signed (key_of ballot.domain index) ballot
