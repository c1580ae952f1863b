-- What the members and the faults of a committee are, in the clauses of their numbers.
use Rattle.std.proofs.Common.{◌*◌, ◌+◌, ◌≤◌, length}
use Rattle.std.specs.Prelude.{IfOk}
use Rattle.committee_certificates.proofs.Members.{outnumber}
use Rattle.committee_votes.proofs.equivocations.equivocation_counted.Goals as goal
use Rattle.committee_votes.proofs.equivocations.equivocation_counted.Given.{Over}

-- the members that signed both are many
shared : (g : Over) (c : goal.After-equivocation_among_counted g) → IfOk c.equivocation_among_counted.result
    (λ both. length c.args.committee.now ≤ 2 * g.M.Faults.faults (length c.args.committee.now) + length both)
shared g c = rw (c.max_faults-faults.ensures.faults, c.len-members.ensures) at c.equivocation_among_counted.ensures.shared

pub returns-clause-outside : goal.returns-clause-outside
returns-clause-outside g c = rw c.len-members.ensures at c.equivocation_among_counted.ensures.outside

pub returns-clause-accountable : goal.returns-clause-accountable
returns-clause-accountable g c = λ k three h.
    let leaves = rw (c.max_faults-faults.ensures.faults, c.len-members.ensures) at c.equivocation_among_counted.ensures.leaves in
    outnumber k _ _ three h c.equivocation_among_counted.result (shared g c) leaves
