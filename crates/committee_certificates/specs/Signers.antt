-- The signers of certificates, as participants of a committee of n members. A set of signers is the list of their
-- indices, strictly increasing. `faults` are those of a fault model: how many of n members may be faulty.
use Rattle.std.specs.Prelude.{◌≡◌, ℕ, ◌+◌, ◌-◌, ◌*◌, ◌<◌, ◌≤◌, ◌↔◌, Bool, List, length}
use Rattle.std.specs.Prelude.{All, Any, Contains}
use Rattle.std.specs.Ordering.{nat_cmp}
use Rattle.commonware_faults.specs.Subsets.{size, IsOutside}
use Rattle.commonware_ordered.specs.Strict.{IsStrict}

-- some signer is at or past the committee's length
abbrev pub HasOutsider : ℕ → List ℕ → Type 0
HasOutsider n signers = Any (λ index. n ≤ index) signers

-- every signer is a member of the committee
abbrev pub AreMembers : ℕ → List ℕ → Type 0
AreMembers n signers = All (λ index. index < n) signers

-- the size of a quorum: all members but as many as may be faulty
abbrev pub quorum_size : (ℕ → ℕ) → ℕ → ℕ
quorum_size faults n = n - faults n

-- fewer than a quorum signed
abbrev pub AreTooFew : (ℕ → ℕ) → ℕ → List ℕ → Type 0
AreTooFew faults n signers = length signers < quorum_size faults n

-- a quorum of members signed, or more of them, and no one else
abbrev pub AreQuorum : (ℕ → ℕ) → ℕ → List ℕ → Type 0
AreQuorum faults n signers = AreMembers n signers × (quorum_size faults n ≤ length signers)

-- exactly the participants in both, strictly increasing
pub record AreInBoth (first second both : List ℕ) : Type 0 where
  pub strict : IsStrict nat_cmp both
  pub exactly : (index : ℕ) → Contains both index ↔ (Contains first index × Contains second index)

-- Every subset of the n members with at most f of them leaves some of these signers outside: a subset of positions,
-- and as well a set of participants that are members.
pub record LeavesOneOutside (n f : ℕ) (signers : List ℕ) : Type 0 where
  pub of_positions : (faulty : List Bool) → length faulty ≡ n → size faulty ≤ f
      → (index : ℕ) × Contains signers index × IsOutside faulty index
  pub of_participants : (faulty : List ℕ) → IsStrict nat_cmp faulty → AreMembers n faulty → length faulty ≤ f
      → (index : ℕ) × Contains signers index × (¬ Contains faulty index)

-- What the signers of both of two certificates are at a resilience k of 3 and more: at least (k - 2)f + 1, of whom one
-- is outside any f of the n members.
pub record OutnumberFaults (k n f : ℕ) (signers : List ℕ) : Type 0 where
  pub many : (k - 2) * f + 1 ≤ length signers
  pub leaves : LeavesOneOutside n f signers
