-- What a signature is about. A ballot is what a vote says, as three lists of bytes: the domain (the chain, its version
-- and the committee), the slot (what an honest member signs at most once in that domain) and the decision.
use Rattle.std.specs.Prelude.{◌≡◌, ◌≢◌, ℕ, List}
use Rattle.committee_votes.specs.declared.votes.Vote.{Vote}
use Rattle.committee_votes.specs.declared.votes.VoteAt.{VoteAt}

-- the three lists of bytes of a vote
pub record Ballot : Type 0 where
  pub domain : List ℕ
  pub slot : List ℕ
  pub decision : List ℕ

-- what a vote says
abbrev pub ballot : {A : Type 0} → Vote A → Ballot
ballot vote = record { domain = vote.domain.items; slot = vote.slot.items; decision = vote.decision.items }

-- and a borrowed one
abbrev pub ballot_at : VoteAt → Ballot
ballot_at vote = record { domain = vote.domain.now; slot = vote.slot.now; decision = vote.decision.now }

-- the ballots are for one slot of one domain
pub record AreOfOneSlot (first second : Ballot) : Type 0 where
  pub same_domain : first.domain ≡ second.domain
  pub same_slot : first.slot ≡ second.slot

-- the ballots are for two domains, and so perhaps of two committees
abbrev pub AreOfOtherDomains : Ballot → Ballot → Type 0
AreOfOtherDomains first second = first.domain ≢ second.domain

-- the ballots are for two slots of one domain
abbrev pub AreOfOtherSlots : Ballot → Ballot → Type 0
AreOfOtherSlots first second = (first.domain ≡ second.domain) × (first.slot ≢ second.slot)

-- the ballots are one decision for one slot
abbrev pub AreOneDecision : Ballot → Ballot → Type 0
AreOneDecision first second = AreOfOneSlot first second × (first.decision ≡ second.decision)

-- the ballots contradict one another: they are two decisions for one slot of one domain
abbrev pub Contradict : Ballot → Ballot → Type 0
Contradict first second = AreOfOneSlot first second × (first.decision ≢ second.decision)
