use Rattle.std.proofs.Common.{◌≡◌, length, take, inl, ap, subst, Err, arith}
use Rattle.commonware_base.specs.Prefixes.{IsLongPrefix}
use Rattle.committee_core.specs.Run.{prefix_size}
use Rattle.committee_core.specs.declared.error.RunError.TheVariants.{Memory}
use Rattle.committee_core.proofs.CommitteePrefixes.{committee_needs_memory}
use Rattle.committee_core.proofs.Refusals.{err_is}
use Rattle.committee_core.proofs.runs.read_report.Goals as goal

pub returns-in_err-members-clause-memory : goal.returns-in_err-members-clause-memory
returns-in_err-members-clause-memory g c = λ memory.
    let (s, gave, is_front, total) = c.in_ok-counted.ensures.bytes in
    let room : length c.read_prefix.new.room ≡ prefix_size = omega (arith, c.read_prefix.auto.room) in
    let is = err_is c.from_residual-in_err-members.result c.in_err-members.field-0.0 Memory c.from_residual-in_err-members.ensures.1 memory in
    (s, inl (gave, c.in_err-members.ensures.memory s (subst (λ n. IsLongPrefix n s (take c.in_ok-counted.counted.kept c.read_prefix.new.room)) room is_front) (ap Err is)))

pub returns-clause-memory : goal.returns-clause-memory
returns-clause-memory g c = λ memory.
    let (s, gave, is_front, total) = c.in_ok-counted.ensures.bytes in
    let room : length c.read_prefix.new.room ≡ prefix_size = omega (arith, c.read_prefix.auto.room) in
    let members = c.in_ok-members.ensures.accepted s (subst (λ n. IsLongPrefix n s (take c.in_ok-counted.counted.kept c.read_prefix.new.room)) room is_front) total in
    (s, inl (gave, committee_needs_memory s _ _ members))
