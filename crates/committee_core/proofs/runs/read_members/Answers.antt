-- The reader's error of the prefix is an error of all the bytes.
use Rattle.std.proofs.Common.{rules, refl, ◌≡◌, List, ℕ}
use Rattle.commonware_base.specs.Source.{rest_of}
use Rattle.committee_core.specs.Run.{members_range, committee_fault, refusal_of, IsCommitteeMemoryFree, IsRefusal}
use Rattle.committee_core.specs.declared.error.RunError.TheVariants.{Memory}
use Rattle.committee_core.proofs.CommitteePrefixes.{prefix_refused}
use Rattle.commonware_base.proofs.Errors.{err_along}
use Rattle.committee_core.proofs.Refusals.{err_is, refused_by_reader, wanted_by_reader}
use Rattle.std.proofs.Common.{arith}
use Rattle.std.proofs.lemmas.Grind.{common_steps}
use Rattle.committee_core.proofs.runs.read_members.Goals as goal

pub returns-in_err-members-clause-refused : goal.returns-in_err-members-clause-refused
returns-in_err-members-clause-refused g c = λ s is_front total.
    let range : c.from.result ≡ members_range = search rules in
    let text : rest_of c.new-src.result ≡ c.args.prefix.now = search rules in
    let error = c.in_err-members.field-0.0 in
    let whole = prefix_refused c.from.result (rest_of c.new-src.result) s c.args.prefix.now error range text is_front c.in_err-members.ensures.refused in
    let Given : List ℕ → Type 0 = λ t. t ≡ s in
    err_along c.from_residual.result _ (IsRefusal Given) c.from_residual.ensures.1 (refused_by_reader s (IsCommitteeMemoryFree s) error whole Given refl)

pub returns-in_err-members-clause-memory : goal.returns-in_err-members-clause-memory
returns-in_err-members-clause-memory g c = λ s is_front memory.
    let range : c.from.result ≡ members_range = search rules in
    let text : rest_of c.new-src.result ≡ c.args.prefix.now = search rules in
    let error = c.in_err-members.field-0.0 in
    let whole = prefix_refused c.from.result (rest_of c.new-src.result) s c.args.prefix.now error range text is_front c.in_err-members.ensures.refused in
    wanted_by_reader (committee_fault s) (IsCommitteeMemoryFree s) error whole (err_is c.from_residual.result (refusal_of error) Memory c.from_residual.ensures.1 memory)

pub returns-then-left-gt0-clause-refused : goal.returns-then-left-gt0-clause-refused
returns-then-left-gt0-clause-refused g c = grind (arith, common_steps)

pub returns-clause-accepted : goal.returns-clause-accepted
returns-clause-accepted g c = grind (arith, common_steps)
