use Rattle.std.proofs.Common.{rules, ◌<◌, arith}
use Rattle.committee_certificates.proofs.Counted.{outsider_from_not_members}
use Rattle.committee_certificates.proofs.in_place.SignersAt.are_members.Goals as goal

pub returns-clause-is_true : goal.returns-clause-is_true
returns-clause-is_true c = λ few indices found. (found.past_is c.args.members).1 (search rules)

pub returns-clause-is_false : goal.returns-clause-is_false
returns-clause-is_false c = λ many indices found.
    let past : c.args.members < c.args.self.now.past = search rules in
    outsider_from_not_members c.args.members indices (λ members.
    let few = (found.past_is c.args.members).0 members in omega (arith, past, few))
