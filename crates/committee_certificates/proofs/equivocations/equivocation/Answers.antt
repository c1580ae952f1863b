-- What the members and the faults of a committee are, in the clauses of their numbers.
use Rattle.std.proofs.Common.{◌*◌, ◌+◌, ◌≤◌, length}
use Rattle.std.specs.Prelude.{IfOk}
use Rattle.std.proofs.lemmas.Result.{IfOk-weaker}
use Rattle.committee_certificates.proofs.Members.{outnumber, overlap-many, thirds-fit}
use Rattle.committee_certificates.proofs.equivocations.equivocation.Goals as goal
use Rattle.committee_certificates.proofs.equivocations.equivocation.Given.{Over}

-- the members that signed both are many
shared : (g : Over) (c : goal.After-equivocation_among g) → IfOk c.equivocation_among.result
    (λ both. length c.args.committee.now ≤ 2 * g.M.Faults.faults (length c.args.committee.now) + length both)
shared g c = rw (c.max_faults.ensures.faults, c.len-members.ensures) at c.equivocation_among.ensures.shared

pub returns-clause-outside : goal.returns-clause-outside
returns-clause-outside g c = rw c.len-members.ensures at c.equivocation_among.ensures.outside

pub returns-clause-accountable : goal.returns-clause-accountable
returns-clause-accountable g c = λ k three h.
    let leaves = rw (c.max_faults.ensures.faults, c.len-members.ensures) at c.equivocation_among.ensures.leaves in
    outnumber k _ _ three h c.equivocation_among.result (shared g c) leaves

pub returns-clause-thirds : goal.returns-clause-thirds
returns-clause-thirds g c = λ h.
    IfOk-weaker c.equivocation_among.result _ _ (λ both many. overlap-many _ _ _ _ many h.overlaps) (shared g c)

pub returns-clause-fifths : goal.returns-clause-fifths
returns-clause-fifths g c = λ h.
    IfOk-weaker c.equivocation_among.result _ _ (λ both many. overlap-many _ _ _ _ many h.overlaps) (shared g c)

pub returns-clause-outlasts : goal.returns-clause-outlasts
returns-clause-outlasts g c =
    let leaves = rw (c.max_faults.ensures.faults, c.len-members.ensures) at c.equivocation_among.ensures.leaves in
    λ h. leaves (thirds-fit _ _ h)
