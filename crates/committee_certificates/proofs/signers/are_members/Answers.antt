-- The last signer decides.
use Rattle.std.proofs.Common.{◌-◌, arith, length, rules}
use Rattle.committee_certificates.proofs.Counted.{members_by_last, outsider_by_last}
use Rattle.committee_certificates.proofs.signers.are_members.Goals as goal

pub returns-in-Some-clause-is_true : goal.returns-in-Some-clause-is_true
returns-in-Some-clause-is_true g c =
    let signers = c.args.signers.now in
    let item = rw c.as_slice.ensures.items at c.in-Some.ensures.item in
    let by = members_by_last c.args.members c.in-Some.last.now (length signers - 1) signers c.as_slice.ensures.strict
    (omega (arith, item.3.0)) item.3.1 in
    (λ below. by.0 (search rules), λ all. let below = by.1 all in search rules)

pub returns-in-Some-clause-is_false : goal.returns-in-Some-clause-is_false
returns-in-Some-clause-is_false g c =
    let signers = c.args.signers.now in
    let item = rw c.as_slice.ensures.items at c.in-Some.ensures.item in
    let by = outsider_by_last c.args.members c.in-Some.last.now (length signers - 1) signers c.as_slice.ensures.strict
    (omega (arith, item.3.0)) item.3.1 in
    (λ above. by.0 (search rules), λ outsider. let above = by.1 outsider in search rules)
