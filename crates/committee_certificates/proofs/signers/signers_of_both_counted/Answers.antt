-- The walk over the slices of two sets keeps those in both.
use Rattle.std.proofs.Common.{◌≡◌, ℕ, List, subst, sym}
use Rattle.std.specs.Ordering.{nat_cmp}
use Rattle.commonware_ordered.specs.Strict.{IsStrict}
use Rattle.committee_certificates.specs.Signers.{AreInBoth}
use Rattle.committee_certificates.proofs.Both.{common, AreInBoth-common}
use Rattle.committee_certificates.proofs.signers.signers_of_both_counted.Goals as goal

-- what the walk returns, of the signers that the two slices show
named : (first second one two both : List ℕ) → one ≡ first → two ≡ second → IsStrict nat_cmp first → both ≡ common one two → AreInBoth first second both
named first second one two both e f strict same =
    let kept = subst (λ xs. AreInBoth xs two (common xs two)) (sym e) (AreInBoth-common first two strict) in
    subst (λ xs. AreInBoth first xs both) f (subst (λ xs. AreInBoth xs two both) e (subst (AreInBoth one two) (sym same) kept))

pub from_strict-requires : goal.from_strict-requires
from_strict-requires g c =
    (named c.args.first.now c.args.second.now c.as_slice.result.now c.as_slice-2.result.now c.in_ok-both.both.items
    c.as_slice.ensures.items c.as_slice-2.ensures.items c.as_slice.ensures.strict c.in_ok-both.ensures.shared).strict

pub returns-clause-both : goal.returns-clause-both
returns-clause-both g c =
    subst (AreInBoth c.args.first.now c.args.second.now) (sym c.from_strict.ensures)
    (named c.args.first.now c.args.second.now c.as_slice.result.now c.as_slice-2.result.now c.in_ok-both.both.items
    c.as_slice.ensures.items c.as_slice-2.ensures.items c.as_slice.ensures.strict c.in_ok-both.ensures.shared)
