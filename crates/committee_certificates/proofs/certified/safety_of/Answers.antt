use Rattle.std.proofs.Common.{ℕ, List}
use Rattle.std.specs.Ordering.{nat_cmp}
use Rattle.commonware_ordered.specs.Strict.{IsStrict}
use Rattle.committee_certificates.specs.Accountability.{EachSigned, IsCertifiedBy}
use Rattle.committee_certificates.specs.Signers.{AreQuorum}
use Rattle.committee_certificates.proofs.Accountable.{no_two}
use Rattle.committee_certificates.proofs.certified.safety_of.Goals as goal

-- a quorum that signed is a quorum certificate
certified : (faults : ℕ → ℕ) (n : ℕ) (signed : ℕ → List ℕ → Type 0) (signers value : List ℕ) → IsStrict nat_cmp signers
    → EachSigned signed signers value → AreQuorum faults n signers → IsCertifiedBy n (faults n) signed signers value
certified faults n signed signers value strict each quorum = record {
  strict = strict;
  members = quorum.0;
  enough = quorum.1;
  each_signed = each;
}

pub returns : goal.returns
returns g c = λ faults n fits rule at_most one two p q.
    let signed = g.S.Signing.signed in
    let first = c.args.first.now in
    let second = c.args.second.now in
    no_two n (faults n) g.S.Signing.honest signed fits rule at_most first.signers second.signers first.value.items
    second.value.items
    (certified faults n signed first.signers first.value.items c.as_slice.ensures.strict one p)
    (certified faults n signed second.signers second.value.items c.as_slice-2.ensures.strict two q)
