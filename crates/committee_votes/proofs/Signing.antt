-- Accountability over ballots, for any relation of who signed what.
use Rattle.std.proofs.Common.{ℕ, ◌+◌, ◌-◌, ◌*◌, ◌<◌, ◌≤◌, List, subst, sym}
use Rattle.std.specs.List.{Contains}
use Rattle.std.proofs.lemmas.List.Elements.{All-contains}
use Rattle.committee_certificates.specs.Accountability.{AtMostFaulty}
use Rattle.committee_certificates.specs.Signers.{AreInBoth}
use Rattle.committee_certificates.proofs.Both.{common, AreInBoth-common}
use Rattle.committee_votes.proofs.Sharing.{AreListsAndBoth, quorums_leave, shared_of}
use Rattle.committee_votes.specs.Accountability.{ByKey, EachHasSignedTwo, EachSigned, HasSignedTwo, IsCertifiedBy}
use Rattle.committee_votes.specs.Accountability.{NoneIsHonest, SignOneVote}
use Rattle.committee_votes.specs.Votes.{Ballot, Contradict}

-- whoever is in both lists signed both ballots
pub each_guilty : (signed : ℕ → Ballot → Type 0) (first second named : List ℕ) (one two : Ballot)
    → EachSigned signed first one → EachSigned signed second two → Contradict one two
    → AreInBoth first second named → EachHasSignedTwo signed named
each_guilty signed first second named one two h k c both =
    λ index w. let b = (both.exactly index).0 w in (one, two, h index b.0, k index b.1, c)

-- whoever signed two that contradict one another isn't honest, where honest participants sign one decision a slot
pub not_honest : {Who : Type 0} (honest : Who → Type 0) (signed : Who → Ballot → Type 0) → SignOneVote honest signed
    → (who : Who) → HasSignedTwo signed who → ¬ honest who
not_honest honest signed rule who (one, two, h, k, c) good = c.1 (rule.one_decision who good one two h k c.0)

-- so none of those in both lists is honest
pub none_honest : (honest : ℕ → Type 0) (signed : ℕ → Ballot → Type 0) → SignOneVote honest signed
    → (first second named : List ℕ) (one two : Ballot)
    → EachSigned signed first one → EachSigned signed second two → Contradict one two
    → AreInBoth first second named → NoneIsHonest honest named
none_honest honest signed rule first second named one two h k c both =
    λ index w. not_honest honest signed rule index (each_guilty signed first second named one two h k c both index w)

-- so no two quorums sign ballots that contradict one another
pub no_two : (n f : ℕ) (honest : ℕ → Type 0) (signed : ℕ → Ballot → Type 0) → 3 * f + 1 ≤ n
    → SignOneVote honest signed → AtMostFaulty n f honest → (first second : List ℕ) (one two : Ballot)
    → IsCertifiedBy n f signed first one → IsCertifiedBy n f signed second two → ¬ Contradict one two
no_two n f honest signed fits rule at_most first second one two p q c =
    let both = AreInBoth-common first second p.strict in
    let lists : AreListsAndBoth n first second (common first second) = record {
      first_strict = p.strict;
      second_strict = q.strict;
      first_members = p.members;
      second_members = q.members;
      both = both;
    } in
    let shared = shared_of lists (n - f) (n - f) p.enough q.enough in
    let r = (quorums_leave n f (common first second) shared fits).of_participants at_most.faulty at_most.strict at_most.members at_most.few in
    let member : r.0 < n = All-contains (λ i. i < n) first r.0 p.members ((both.exactly r.0).0 r.1).0 in
    none_honest honest signed rule first second (common first second) one two p.each_signed q.each_signed c both r.0 r.1
    (at_most.others_honest r.0 member r.2)

-- By keys: whatever committee each domain names, whoever is in both lists has one key, by both ballots, that signed both.
pub keys_guilty : {Key : Type 0} (key_of : List ℕ → ℕ → Key) (signed : Key → Ballot → Type 0)
    (first second named : List ℕ) (one two : Ballot)
    → EachSigned (ByKey key_of signed) first one → EachSigned (ByKey key_of signed) second two → Contradict one two
    → AreInBoth first second named → (index : ℕ) → Contains named index → HasSignedTwo signed (key_of one.domain index)
keys_guilty key_of signed first second named one two h k c both index w =
    let b = (both.exactly index).0 w in
    let second_signed : signed (key_of one.domain index) two =
    subst (λ d. signed (key_of d index) two) (sym c.0.same_domain) (k index b.1) in
    (one, two, h index b.0, second_signed, c)
